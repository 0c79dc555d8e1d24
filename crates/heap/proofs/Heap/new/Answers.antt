-- `heap::Heap::new` meets its contract: all numbers are those of a new heap.
use Rattle.std.proofs.Common.{refl}
use Rattle.heap.specs.Calls.{new}
use Rattle.heap.specs.Lent.{header_of}
use Rattle.heap.proofs.Heap.new.Goals as goal

pub returns : goal.returns
unfolding header_of new
returns c = refl
