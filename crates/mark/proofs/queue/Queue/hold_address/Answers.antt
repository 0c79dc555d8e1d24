-- `Queue::hold_address` meets its contract.
use mathlib.Core.Path.{refl}
use Rattle.mark.proofs.States.{same-again}
use Rattle.mark.proofs.Holding.{address-nowhere, address-at}
use Rattle.mark.proofs.queue.Queue.hold_address.Goals as goal

pub returns-in-None : goal.returns-in-None
returns-in-None c = record { loans = same-again c.args.self.now; holds = search address-nowhere; noted = refl }

pub returns-in-Some : goal.returns-in-Some
returns-in-Some c = record { loans = c.hold.ensures.loans; holds = search address-at; noted = c.hold.ensures.noted }
