-- `memory::move_down` meets its contract.
use Rattle.std.proofs.Common.{rules, ap, ◌∙◌, ◌+◌}
use mathlib.Core.Path.{refl}
use lib.ListN.{set}
use Rattle.word.proofs.PutLaws.{put-none, down_turn}
use Rattle.memory.proofs.move_down.Goals as goal

pub loop-j-init : goal.loop-j-init
loop-j-init g c = (put-none _ _ _, refl)

pub loop-j-preserved : goal.loop-j-preserved
loop-j-preserved g c = (
  ap (λ x. set c.loop-j.p (c.args.to + c.loop-j.j) x) c.index-p-from.is
      ∙ down_turn _ _ _ _ _ c.index-p-from.result c.loop-j.invariant.0 (search rules) (search rules),
  search rules,
)
