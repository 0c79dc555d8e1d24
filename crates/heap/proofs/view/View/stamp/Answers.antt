-- `View::stamp` meets its contract.
use Rattle.std.proofs.Common.{◌<◌, arith}
use Rattle.heap.specs.Lent.{lent, view}
use Rattle.heap.proofs.Columns.{Sizes, Reads, sizes, reads}
use Rattle.heap.proofs.Questions.{none-beyond, lifeless, no-stamp, its-stamp}
use Rattle.heap.proofs.view.View.stamp.Goals as goal
use Rattle.heap.proofs.view.View.stamp.Goals.{Start}

K : (c : Start) → Sizes c.args.self.heap c.args.self.narrow.now c.args.self.wide.now c.args.self.pool.now
K c = sizes c.args.self.heap c.args.self.narrow.now c.args.self.wide.now c.args.self.pool.now c.args.self.formed

R : (c : Start) → c.args.i < c.args.self.heap.slots → Reads c.args.self.heap c.args.self.narrow.now c.args.self.wide.now c.args.self.pool.now c.args.i
R c b = reads c.args.self.heap c.args.self.narrow.now c.args.self.wide.now c.args.self.pool.now c.args.self.formed c.args.i b

pub returns-then-heap-i : goal.returns-then-heap-i
returns-then-heap-i c = no-stamp (view ((lent c.args.self.heap c.args.self.narrow.now c.args.self.wide.now c.args.self.pool.now))) _ (none-beyond ((lent c.args.self.heap c.args.self.narrow.now c.args.self.wide.now c.args.self.pool.now)) c.args.self.formed _ c.if-heap-i.true)

pub overflow_add-s : goal.overflow_add-s
overflow_add-s c = omega (arith, K (goal.at.overflow_add-s c).Start)

pub offset_bounds-narrow-s : goal.offset_bounds-narrow-s
offset_bounds-narrow-s c = omega (arith, K (goal.at.offset_bounds-narrow-s c).Start)

pub bounds-narrow-s : goal.bounds-narrow-s
bounds-narrow-s c = omega (arith, K (goal.at.bounds-narrow-s c).Start)

pub returns-then-narrow-s-eq0 : goal.returns-then-narrow-s-eq0
returns-then-narrow-s-eq0 c = no-stamp (view ((lent c.args.self.heap c.args.self.narrow.now c.args.self.wide.now c.args.self.pool.now))) _ (lifeless (view ((lent c.args.self.heap c.args.self.narrow.now c.args.self.wide.now c.args.self.pool.now))) _ (R (goal.at.returns-then-narrow-s-eq0 c).Start (omega arith)).kind c.if-narrow-s-eq0.true)

pub offset_bounds-narrow-i : goal.offset_bounds-narrow-i
offset_bounds-narrow-i c = omega (arith, K (goal.at.offset_bounds-narrow-i c).Start)

pub bounds-narrow-i : goal.bounds-narrow-i
bounds-narrow-i c = omega (arith, K (goal.at.bounds-narrow-i c).Start)

pub overflow_add-result : goal.overflow_add-result
overflow_add-result c = omega (arith, K (goal.at.overflow_add-result c).Start)

pub offset_bounds-wide-s : goal.offset_bounds-wide-s
offset_bounds-wide-s c = omega (arith, K (goal.at.offset_bounds-wide-s c).Start)

pub bounds-wide-s : goal.bounds-wide-s
bounds-wide-s c = omega (arith, K (goal.at.bounds-wide-s c).Start)

pub returns : goal.returns
returns c = let b = R (goal.at.returns c).Start (omega arith) in its-stamp (view ((lent c.args.self.heap c.args.self.narrow.now c.args.self.wide.now c.args.self.pool.now))) _ b.generation b.kind b.writes c.if-narrow-s-eq0.false
