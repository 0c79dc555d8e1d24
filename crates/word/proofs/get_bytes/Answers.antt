use mathlib.Core.Path.{◌≡◌, ap, ap₂, ◌∙◌}
use Prim.Native.Nat.{ℕ, ◌+◌, ◌-◌}
use native.Mathlib.Nat.{sub-zero, add-zero}
use native.Mathlib.Omega.{arith}
use lib.ListN.{take, drop}
use borrow.Author.Rules.{rules}
use Rattle.word.specs.Le.{le}
use Rattle.word.proofs.Gets.{begin, next}
use Rattle.word.proofs.get_bytes.Goals as goal

pub loop-i-init : goal.loop-i-init
loop-i-init c = begin _ _ _

pub overflow_cast-v : goal.overflow_cast-v
overflow_cast-v c = omega (arith, c.type_inv.s (c.args.at + (c.loop-i.i - 1)))

pub loop-i-preserved : goal.loop-i-preserved
loop-i-preserved c = next _ _ _ _ _ c.loop-i.invariant c.requires.0 c.requires.1 (search rules) (c.type_inv.s (c.args.at + (c.loop-i.i - 1))).fits

pub returns : goal.returns
returns c = let z : c.loop-i.i ≡ 0 = omega arith in
    c.loop-i.invariant.value
    ∙ ap (λ (i : ℕ). le (take (c.args.n - i) (drop (c.args.at + i) c.args.s.now))) z
    ∙ ap₂ (λ (x y : ℕ). le (take x (drop y c.args.s.now))) (sub-zero c.args.n) (add-zero c.args.at)
