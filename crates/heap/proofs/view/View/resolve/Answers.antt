-- `View::resolve` meets its contract.
use Rattle.std.proofs.Common.{◌∙◌, arith}
use Rattle.heap.proofs.Columns.{sizes}
use Rattle.heap.proofs.Questions.{resolves}
use Rattle.heap.specs.Inner.Seen.{seen}
use Rattle.heap.proofs.view.View.resolve.Goals as goal

pub resolve-requires : goal.resolve-requires
resolve-requires c = omega (arith, sizes c.args.self.heap c.args.self.narrow.now c.args.self.wide.now c.args.self.pool.now c.args.self.formed)

pub returns : goal.returns
returns c = c.resolve.ensures ∙ resolves (seen c.args.self) c.args.self.formed c.args.x
