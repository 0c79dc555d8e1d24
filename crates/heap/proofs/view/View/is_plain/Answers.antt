-- `View::is_plain` meets its contract.
use Rattle.std.proofs.Common.{refl}
use Rattle.heap.specs.Inner.Seen.{seen}
use Rattle.heap.proofs.view.View.is_plain.Goals as goal

pub returns : goal.returns
returns c = c.is_plain.ensures (seen c.args.self) refl c.args.self.formed
