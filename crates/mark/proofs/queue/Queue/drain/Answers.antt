use native.Mathlib.Omega.{arith}
use Rattle.mark.proofs.QueueLoop.{draining-start, queue-slots, queue-below, drains-end, drains-stop, drains-next}
use Rattle.mark.proofs.queue.Queue.drain.Goals as goal

pub loop-next-init : goal.loop-next-init
loop-next-init c = draining-start _ _ _ _ c.requires

pub trace_at-requires : goal.trace_at-requires
trace_at-requires c = record { ready = c.loop-next.invariant.scratch; i_lt_slots = queue-below _ _ _ _ c.loop-next.invariant.scratch _ c.loop-next-test.true }

pub returns-in_err-trace_at : goal.returns-in_err-trace_at
returns-in_err-trace_at c = drains-stop _ _ _ _ _ _ _ _ _ _ _ c.loop-next.invariant c.loop-next-test.true _ _ c.trace_at.ensures c.in_err-trace_at.was _ c.from_residual.ensures

pub loop-next-smaller : goal.loop-next-smaller
loop-next-smaller c = omega (arith, queue-slots _ _ _ _ c.loop-next.invariant.scratch, c.loop-next-test.true)

pub loop-next-preserved : goal.loop-next-preserved
loop-next-preserved c = drains-next _ _ _ _ _ _ _ _ _ _ _ c.loop-next.invariant c.loop-next-test.true _ _ c.trace_at.ensures _ c.in_ok-trace_at.was

pub returns : goal.returns
returns c = record { loans = c.loop-next.invariant.loans; traces = (search drains-end, c.loop-next.invariant.scratch); noted = c.loop-next.invariant.noted }
