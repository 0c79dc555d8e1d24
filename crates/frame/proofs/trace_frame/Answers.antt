-- `frame::trace_frame` meets its contract.
use Rattle.frame.proofs.FrameLaws.{frame-cut, frame-entries}
use Rattle.frame.proofs.trace_frame.Goals as goal

pub returns-then-map-ne0 : goal.returns-then-map-ne0
returns-then-map-ne0 c = search frame-cut

pub returns : goal.returns
returns c = search frame-entries
