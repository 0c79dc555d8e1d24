-- `View::has_quarantine` meets its contract.
use Rattle.std.proofs.Common.{refl}
use Rattle.heap.specs.Inner.Seen.{seen}
use Rattle.heap.proofs.view.View.has_quarantine.Goals as goal

pub returns : goal.returns
returns c = c.has_quarantine.ensures (seen c.args.self) refl c.args.self.formed
