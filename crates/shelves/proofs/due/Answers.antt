-- `shelves::due` meets its contract, by its test.
use Rattle.shelves.proofs.Taking.{due-line, due-over}
use Rattle.shelves.proofs.due.Goals as goal

pub returns-then-pages-lt1000000 : goal.returns-then-pages-lt1000000
returns-then-pages-lt1000000 c = due-line _ c.if-pages-lt1000000.true

pub returns : goal.returns
returns c = due-over _ c.requires c.if-pages-lt1000000.false
