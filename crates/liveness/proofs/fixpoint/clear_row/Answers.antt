-- `liveness::fixpoint::clear_row` meets its contract.
use native.Mathlib.Omega.{arith}
use mathlib.Core.Path.{◌∙◌, ap}
use mathlib.Core.List.{List}
use Prim.Native.Nat.{ℕ, ◌+◌, ◌-◌}
use lib.ListN.{length, take, drop}
use Rattle.rows.specs.Inner.Row.{bit_in}
use Rattle.liveness.proofs.Scratch.{mid-frame, mid-cell, mid-length, zero_bit}
use Rattle.liveness.proofs.fixpoint.clear_row.Goals as goal

pub returns : goal.returns
returns c = let l = c.fill.auto.self ∙ mid-length c.args.at c.args.words c.args.s.now (omega arith) in (
  mid-frame c.args.at c.args.words c.args.s.now c.fill.new.self c.requires l,
  λ q h. mid-cell c.args.at c.args.words c.args.s.now c.fill.new.self c.requires l q h ∙ ap (λ (z : List ℕ). bit_in 64 z q) (c.fill.ensures.after (λ y e. e)) ∙ zero_bit (length (take ((c.args.at + c.args.words) - c.args.at) (drop c.args.at c.args.s.now))) q,
)
