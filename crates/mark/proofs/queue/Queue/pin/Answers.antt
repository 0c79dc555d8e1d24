-- `Queue::pin` meets its contract.
use mathlib.Core.Path.{refl}
use Rattle.mark.proofs.States.{same-again, pin-beyond, pin-dead, pin-live}
use Rattle.mark.proofs.TracedIntoQueue.{queue-met, pin-noted}
use Rattle.mark.proofs.queue.Queue.pin.Goals as goal

pub returns-then-slots-j : goal.returns-then-slots-j
returns-then-slots-j c = record { loans = same-again c.args.self.now; holds = search pin-beyond; noted = refl }

pub returns-then-narrow-s-eq0 : goal.returns-then-narrow-s-eq0
returns-then-narrow-s-eq0 c = record { loans = same-again c.args.self.now; holds = search pin-dead; noted = refl }

pub returns : goal.returns
returns c = record { loans = record { marks = refl; work = refl }; holds = search (pin-live, queue-met); noted = search pin-noted }
