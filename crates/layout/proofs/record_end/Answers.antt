-- `layout::record_end` meets its contract.
use mathlib.Core.Path.{refl}
use Rattle.layout.specs.Layout.{end_of}
use Rattle.layout.proofs.Stops.{stops}
use Rattle.layout.proofs.record_end.Goals as goal

pub returns-in_err-size : goal.returns-in_err-size
unfolding end_of
returns-in_err-size c = rw (stops _ _ _ _ c.in_err-size.ensures.value c.from_residual.ensures.1, ← c.align_up.ensures, c.in_err-size.ensures.ok_part) refl

pub returns : goal.returns
unfolding end_of
returns c = rw (← c.align_up.ensures, c.in_ok-size.ensures.ok_part) refl
