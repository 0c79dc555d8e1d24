-- `View::kind` meets its contract.
use Rattle.std.proofs.Common.{◌<◌, arith}
use Rattle.heap.specs.Lent.{lent, view}
use Rattle.heap.proofs.Columns.{Sizes, Reads, sizes, reads}
use Rattle.heap.proofs.Questions.{none-beyond, lifeless, no_kind, its-kind}
use Rattle.heap.proofs.view.View.kind.Goals as goal
use Rattle.heap.proofs.view.View.kind.Goals.{Start}

K : (c : Start) → Sizes c.args.self.heap c.args.self.narrow.now c.args.self.wide.now c.args.self.pool.now
K c = sizes c.args.self.heap c.args.self.narrow.now c.args.self.wide.now c.args.self.pool.now c.args.self.formed

R : (c : Start) → c.args.i < c.args.self.heap.slots → Reads c.args.self.heap c.args.self.narrow.now c.args.self.wide.now c.args.self.pool.now c.args.i
R c b = reads c.args.self.heap c.args.self.narrow.now c.args.self.wide.now c.args.self.pool.now c.args.self.formed c.args.i b

pub returns-then-heap-i : goal.returns-then-heap-i
returns-then-heap-i c = no_kind (view ((lent c.args.self.heap c.args.self.narrow.now c.args.self.wide.now c.args.self.pool.now))) _ (none-beyond ((lent c.args.self.heap c.args.self.narrow.now c.args.self.wide.now c.args.self.pool.now)) c.args.self.formed _ c.if-heap-i.true)

pub overflow_add-k : goal.overflow_add-k
overflow_add-k c = omega (arith, K (goal.at.overflow_add-k c).Start)

pub offset_bounds-narrow-s : goal.offset_bounds-narrow-s
offset_bounds-narrow-s c = omega (arith, K (goal.at.offset_bounds-narrow-s c).Start)

pub bounds-narrow-s : goal.bounds-narrow-s
bounds-narrow-s c = omega (arith, K (goal.at.bounds-narrow-s c).Start)

pub returns-then-k-eq0 : goal.returns-then-k-eq0
returns-then-k-eq0 c = no_kind (view ((lent c.args.self.heap c.args.self.narrow.now c.args.self.wide.now c.args.self.pool.now))) _ (lifeless (view ((lent c.args.self.heap c.args.self.narrow.now c.args.self.wide.now c.args.self.pool.now))) _ (R (goal.at.returns-then-k-eq0 c).Start (omega arith)).kind c.if-k-eq0.true)

pub overflow_add-result : goal.overflow_add-result
overflow_add-result c = omega (arith, K (goal.at.overflow_add-result c).Start)

pub offset_bounds-narrow-s-2 : goal.offset_bounds-narrow-s-2
offset_bounds-narrow-s-2 c = omega (arith, K (goal.at.offset_bounds-narrow-s-2 c).Start)

pub bounds-narrow-s-2 : goal.bounds-narrow-s-2
bounds-narrow-s-2 c = omega (arith, K (goal.at.bounds-narrow-s-2 c).Start)

pub returns : goal.returns
returns c = let b = R (goal.at.returns c).Start (omega arith) in its-kind (view ((lent c.args.self.heap c.args.self.narrow.now c.args.self.wide.now c.args.self.pool.now))) _ b.kind b.type c.if-k-eq0.false
