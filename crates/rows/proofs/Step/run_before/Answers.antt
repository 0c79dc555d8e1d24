-- `rows::step_block` meets its contract.
use mathlib.Core.Path.{sym, ◌∙◌, subst}
use Prim.Native.Nat.{ℕ, ◌-◌}
use native.Mathlib.Omega.{arith}
use borrow.Rule.Slice.PartMut.{mid_len}
use Rattle.rows.specs.Inner.Row.{Apart}
use Rattle.rows.proofs.RowLaws.{put-part}
use Rattle.rows.proofs.Nested.{moved_apart, stepped-first}
use Rattle.rows.proofs.Step.run_before.Goals as goal

pub run-requires : goal.run-requires
run-requires c = subst (λ (n : ℕ). Apart n c.args.self.words 0 (c.args.self.made - c.args.self.live) (c.args.self.out - c.args.self.live) (c.args.self.kill - c.args.self.live))
    (sym (mid_len c.args.self.live c.args.past c.args.scratch.now c.requires.1))
    (moved_apart c.args.past c.args.self.words c.args.self.live c.args.self.made c.args.self.out c.args.self.kill c.requires.0 c.requires.2 c.requires.3 c.requires.4)

pub returns : goal.returns
returns c = stepped-first 64 c.args.scratch.now _ c.args.self.live c.args.past c.args.self.words c.args.self.made c.args.self.out c.args.self.kill _
    c.requires.0 c.requires.2 c.requires.3 c.requires.4
    (put-part c.args.self.live c.args.past c.args.scratch.now c.run.new.scratch _ (omega arith) c.requires.1
    (c.run.auto.scratch ∙ mid_len c.args.self.live c.args.past c.args.scratch.now c.requires.1)
    c.run.ensures)
