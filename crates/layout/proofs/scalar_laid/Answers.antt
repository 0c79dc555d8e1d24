-- `layout::scalar_laid` meets its contract.
use mathlib.Core.Path.{refl}
use Rattle.layout.proofs.Stops.{stops}
use Rattle.layout.proofs.scalar_laid.Goals as goal

pub returns-in_err-n : goal.returns-in_err-n
returns-in_err-n c = rw (stops _ _ _ _ c.in_err-n.ensures.value c.from_residual.ensures.1, ← c.scalar_size.ensures, c.in_err-n.ensures.ok_part) refl

pub returns : goal.returns
returns c = rw (← c.scalar_size.ensures, c.in_ok-n.ensures.ok_part, c.scalar_layout.ensures) refl
