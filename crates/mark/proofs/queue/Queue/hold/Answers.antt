-- `Queue::hold` meets its contract.
use mathlib.Core.Path.{refl}
use Rattle.mark.proofs.States.{same-again}
use Rattle.mark.proofs.Holding.{hold-beyond, hold-there}
use Rattle.mark.proofs.TracedIntoQueue.{queue-met, pin-noted}
use Rattle.mark.proofs.queue.Queue.hold.Goals as goal

pub returns-then-most-i : goal.returns-then-most-i
returns-then-most-i c = record { loans = same-again c.args.self.now; holds = search hold-beyond; noted = refl }

pub returns : goal.returns
returns c = record { loans = record { marks = refl; work = refl }; holds = search (hold-there, queue-met); noted = search pin-noted }
