-- `Queue::hold_entry` meets its contract.
use mathlib.Core.Path.{refl}
use Rattle.mark.proofs.States.{same-again}
use Rattle.mark.proofs.Holding.{entry_other, entry-beyond, entry-held}
use Rattle.mark.proofs.queue.Queue.hold_entry.Goals as goal

pub returns-then-of-ne1 : goal.returns-then-of-ne1
returns-then-of-ne1 c = record { loans = same-again c.args.self.now; holds = search entry_other; noted = refl }

pub returns-then-memory-offset : goal.returns-then-memory-offset
returns-then-memory-offset c = record { loans = same-again c.args.self.now; holds = search entry-beyond; noted = refl }

pub returns : goal.returns
returns c = record { loans = c.hold_word.ensures.loans; holds = search entry-held; noted = c.hold_word.ensures.noted }
