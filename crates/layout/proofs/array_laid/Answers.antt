-- `layout::array_laid` meets its contract.
use mathlib.Core.Path.{refl, ap}
use Prim.Native.Nat.{ℕ, ◌*◌}
use native.Mathlib.Omega.{arith}
use borrow.Author.Tests.{eq-eqb, ne_eqb}
use Rattle.layout.specs.Layout.{array_laid, laid}
use Rattle.layout.proofs.Stops.{stops}
use Rattle.layout.proofs.array_laid.Goals as goal

pub returns-in_err-stride : goal.returns-in_err-stride
unfolding array_laid
returns-in_err-stride c = rw (stops _ _ _ _ c.in_err-stride.ensures.value c.from_residual.ensures.1, eq-eqb _ _ c.if-logic-eq0.true, ← c.align_up.ensures, c.in_err-stride.ensures.ok_part) refl

pub returns-in_err-whole : goal.returns-in_err-whole
unfolding array_laid
returns-in_err-whole c = rw (stops _ _ _ _ c.in_err-whole.ensures.value c.from_residual-in_err-whole.ensures.1, eq-eqb _ _ c.if-logic-eq0.true, ← c.align_up.ensures, c.in_ok-stride.ensures.ok_part, ← c.product.ensures, c.in_err-whole.ensures.ok_part) refl

pub returns-then-logic-eq0 : goal.returns-then-logic-eq0
unfolding array_laid
returns-then-logic-eq0 c = rw (eq-eqb _ _ c.if-logic-eq0.true, ← c.align_up.ensures, c.in_ok-stride.ensures.ok_part, ← c.product.ensures, c.in_ok-whole.ensures.ok_part) refl

pub returns-in_err-leaves : goal.returns-in_err-leaves
unfolding array_laid
returns-in_err-leaves c = rw (stops _ _ _ _ c.in_err-leaves.ensures.value c.from_residual-in_err-leaves.ensures.1, ne_eqb _ _ c.if-logic-eq0.false, ← c.product-2.ensures, c.in_err-leaves.ensures.ok_part) refl

pub returns : goal.returns
unfolding array_laid
returns c = rw (ne_eqb _ _ c.if-logic-eq0.false, ← c.product-2.ensures, c.in_ok-leaves.ensures.ok_part, c.div_ceil.ensures) (ap (λ (z : ℕ). laid (z * 32) 8 0 c.in_ok-leaves.leaves c.args.used) (omega arith))
