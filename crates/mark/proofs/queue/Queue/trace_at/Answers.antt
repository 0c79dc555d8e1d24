-- `Queue::trace_at` meets its contract.
use mathlib.Core.Path.{refl}
use Rattle.mark.proofs.TracedIntoQueue.{shown-traces, shown-noted}
use Rattle.mark.proofs.QueueLoop.{trace-reaches, trace-stops}
use Rattle.mark.proofs.queue.Queue.trace_at.Goals as goal

pub returns-in_err-self : goal.returns-in_err-self
returns-in_err-self c = trace-stops _ _ _ _ (record { marks = refl; work = refl }) _ (search shown-traces) (search shown-noted) c.in_err-self.was _ c.from_residual.ensures

pub returns : goal.returns
returns c = trace-reaches _ _ _ _ (record { marks = refl; work = refl }) _ (search shown-traces) (search shown-noted) c.in_ok-self.was tt
