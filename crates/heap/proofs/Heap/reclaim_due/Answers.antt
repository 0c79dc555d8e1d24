-- `Heap::reclaim_due` meets its contract.
use Rattle.heap.proofs.Headers.{reclaim-says}
use Rattle.heap.proofs.Heap.reclaim_due.Goals as goal

pub returns : goal.returns
returns c = λ l e w. reclaim-says l w e
