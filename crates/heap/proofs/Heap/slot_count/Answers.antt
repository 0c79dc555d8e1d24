-- `Heap::slot_count` meets its contract.
use Rattle.heap.proofs.Headers.{slots-say}
use Rattle.heap.proofs.Heap.slot_count.Goals as goal

pub returns : goal.returns
returns c = λ l e w. slots-say l w e
