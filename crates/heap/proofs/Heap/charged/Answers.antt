-- `heap::Heap::charged` meets its contract: the sum saturates as the word's does.
use Rattle.std.proofs.Common.{ap}
use Rattle.heap.specs.Inner.Header.{set_since}
use Rattle.heap.proofs.Heap.charged.Goals as goal

pub returns : goal.returns
returns c = ap (set_since c.args.self) c.saturating_add.ensures
