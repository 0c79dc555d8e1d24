-- `View::start` meets its contract.
use Rattle.std.proofs.Common.{arith}
use Rattle.heap.specs.Inner.Seen.{seen}
use Rattle.heap.proofs.Questions.{within}
use Rattle.heap.proofs.Columns.{sizes, reads}
use Rattle.heap.proofs.view.View.start.Goals as goal

pub bounds-wide-i : goal.bounds-wide-i
bounds-wide-i c = omega (arith, sizes c.args.self.heap c.args.self.narrow.now c.args.self.wide.now c.args.self.pool.now c.args.self.formed, within (seen c.args.self) c.args.self.formed c.args.i c.requires)

pub returns : goal.returns
returns c = (reads c.args.self.heap c.args.self.narrow.now c.args.self.wide.now c.args.self.pool.now c.args.self.formed c.args.i (within (seen c.args.self) c.args.self.formed c.args.i c.requires)).start
