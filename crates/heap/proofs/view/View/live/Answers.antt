-- `View::live` meets its contract.
use Rattle.std.proofs.Common.{arith, ◌∙◌}
use Rattle.heap.proofs.Columns.{sizes}
use Rattle.heap.proofs.LiveSlots.{live-counted}
use Rattle.heap.proofs.view.View.live.Goals as goal

pub overflow_add-end : goal.overflow_add-end
overflow_add-end c = omega (arith, sizes c.args.self.heap c.args.self.narrow.now c.args.self.wide.now c.args.self.pool.now c.args.self.formed)

pub slice_bounds-kinds-end : goal.slice_bounds-kinds-end
slice_bounds-kinds-end c = omega (arith, sizes c.args.self.heap c.args.self.narrow.now c.args.self.wide.now c.args.self.pool.now c.args.self.formed)

pub returns : goal.returns
returns c = c.count_in_use.ensures ∙ live-counted c.args.self.heap c.args.self.narrow.now c.args.self.wide.now c.args.self.pool.now c.args.self.formed
