-- `shelves::take_over` meets its contract, by its test.
use Rattle.shelves.proofs.Taking.{takes-passing, takes-passed}
use Rattle.shelves.proofs.take_over.Goals as goal

pub returns-then-n-left : goal.returns-then-n-left
returns-then-n-left c = λ held. takes-passing _ held _ c.if-n-left.true

pub returns : goal.returns
returns c = λ held. takes-passed _ held _ c.requires c.if-n-left.false
