-- `View::slots` meets its contract.
use Rattle.std.proofs.Common.{refl}
use Rattle.heap.specs.Inner.Seen.{seen}
use Rattle.heap.proofs.view.View.slots.Goals as goal

pub returns : goal.returns
returns c = c.slot_count.ensures (seen c.args.self) refl c.args.self.formed
