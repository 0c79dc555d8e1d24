-- `View::bytes` meets its contract.
use Rattle.std.proofs.Common.{arith}
use Rattle.heap.specs.Inner.Seen.{seen}
use Rattle.heap.proofs.Questions.{within, bytes-are}
use Rattle.heap.proofs.Columns.{Sizes, Reads, sizes, reads}
use Rattle.heap.proofs.view.View.bytes.Goals as goal
use Rattle.heap.proofs.view.View.bytes.Goals.{Start}

K : (c : Start) → Sizes c.args.self.heap c.args.self.narrow.now c.args.self.wide.now c.args.self.pool.now
K c = sizes c.args.self.heap c.args.self.narrow.now c.args.self.wide.now c.args.self.pool.now c.args.self.formed

R : (c : Start) → Reads c.args.self.heap c.args.self.narrow.now c.args.self.wide.now c.args.self.pool.now c.args.i
R c = reads c.args.self.heap c.args.self.narrow.now c.args.self.wide.now c.args.self.pool.now c.args.self.formed c.args.i (within (seen c.args.self) c.args.self.formed c.args.i c.requires)

pub start_of-from-requires : goal.start_of-from-requires
start_of-from-requires c = omega (arith, K (goal.at.start_of-from-requires c).Start, within (seen c.args.self) c.args.self.formed c.args.i c.requires)

pub offset_bounds-wide-s : goal.offset_bounds-wide-s
offset_bounds-wide-s c = omega (arith, K (goal.at.offset_bounds-wide-s c).Start, within (seen c.args.self) c.args.self.formed c.args.i c.requires)

pub bounds-wide-s : goal.bounds-wide-s
bounds-wide-s c = omega (arith, K (goal.at.bounds-wide-s c).Start, within (seen c.args.self) c.args.self.formed c.args.i c.requires)

pub overflow_add-to : goal.overflow_add-to
overflow_add-to c = omega (arith, K (goal.at.overflow_add-to c).Start, within (seen c.args.self) c.args.self.formed c.args.i c.requires)

pub slice_bounds-result-count : goal.slice_bounds-result-count
slice_bounds-result-count c = omega (arith, R (goal.at.slice_bounds-result-count c).Start, c.start_of-from.ensures)

pub slice_bounds-result-start : goal.slice_bounds-result-start
slice_bounds-result-start c = omega (arith, R (goal.at.slice_bounds-result-start c).Start, c.start_of-from.ensures)

pub slice_bounds-result-end : goal.slice_bounds-result-end
slice_bounds-result-end c = omega (arith, R (goal.at.slice_bounds-result-end c).Start, c.start_of-from.ensures)

pub returns : goal.returns
returns c = rw c.start_of-from.ensures (bytes-are c.args.self.heap c.args.self.narrow.now c.args.self.wide.now c.args.self.pool.now c.args.self.formed c.args.i c.requires)
