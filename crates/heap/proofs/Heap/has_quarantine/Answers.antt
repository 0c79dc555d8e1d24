-- `Heap::has_quarantine` meets its contract.
use Rattle.heap.proofs.Headers.{quarantine-says}
use Rattle.heap.proofs.Heap.has_quarantine.Goals as goal

pub returns : goal.returns
returns c = λ l e w. quarantine-says l w e
