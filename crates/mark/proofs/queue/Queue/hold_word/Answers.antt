-- `Queue::hold_word` meets its contract.
use mathlib.Core.Path.{refl}
use Rattle.mark.proofs.States.{same-again}
use Rattle.mark.proofs.Holding.{word-short, word_held}
use Rattle.mark.proofs.queue.Queue.hold_word.Goals as goal

pub returns-then-data-lt8 : goal.returns-then-data-lt8
returns-then-data-lt8 c = record { loans = same-again c.args.self.now; holds = search word-short; noted = refl }

pub returns : goal.returns
returns c = record { loans = c.hold_address.ensures.loans; holds = search word_held; noted = c.hold_address.ensures.noted }
