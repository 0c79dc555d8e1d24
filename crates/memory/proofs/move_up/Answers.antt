-- `memory::move_up` meets its contract.
use Rattle.std.proofs.Common.{rules, arith, ap, ◌∙◌, ◌+◌, ◌-◌}
use mathlib.Core.Path.{refl}
use lib.ListN.{set}
use Rattle.word.proofs.PutLaws.{put-none, put-end, up_turn}
use Rattle.memory.proofs.move_up.Goals as goal

pub loop-j-init : goal.loop-j-init
loop-j-init g c = (search rules, put-end _ _ _ _ _ _ (put-none _ _ _) (omega arith), refl)

pub loop-j-preserved : goal.loop-j-preserved
loop-j-preserved g c = (
  omega arith,
  ap (λ x. set c.loop-j.p (c.args.to + (c.loop-j.j - 1)) x) c.index-p-from.is
      ∙ up_turn _ _ _ _ _ _ c.index-p-from.result c.loop-j.invariant.1 (search rules) (search rules) (search rules) (search rules),
  search rules,
)
