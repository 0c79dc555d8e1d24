-- `View::gc_due` meets its contract.
use Rattle.std.proofs.Common.{refl}
use Rattle.heap.specs.Inner.Seen.{seen}
use Rattle.heap.proofs.view.View.gc_due.Goals as goal

pub returns : goal.returns
returns c = c.gc_due.ensures (seen c.args.self) refl c.args.self.formed
