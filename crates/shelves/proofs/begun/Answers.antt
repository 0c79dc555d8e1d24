-- `shelves::begun` meets its contract, by its tests.
use Rattle.shelves.proofs.Taking.{begins-passing, begins-empty, begins-page}
use Rattle.shelves.proofs.begun.Goals as goal

pub returns-then-n-gt32768 : goal.returns-then-n-gt32768
returns-then-n-gt32768 c = begins-passing _ c.if-n-gt32768.true

pub returns-then-n-eq0 : goal.returns-then-n-eq0
returns-then-n-eq0 c = begins-empty _ c.if-n-eq0.true

pub returns : goal.returns
returns c = begins-page _ c.if-n-gt32768.false c.if-n-eq0.false
