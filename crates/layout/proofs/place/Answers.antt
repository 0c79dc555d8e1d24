-- `layout::place` meets its contract.
use mathlib.Core.Path.{refl}
use Rattle.layout.specs.Layout.{placed}
use Rattle.layout.proofs.place.Goals as goal

pub returns-in_err-o : goal.returns-in_err-o
unfolding placed
returns-in_err-o c = rw (c.from_residual.ensures, ← c.align_up.ensures, c.in_err-o.was) refl

pub returns : goal.returns
unfolding placed
returns c = rw (← c.align_up.ensures, c.in_ok-o.was) c.sum.ensures
