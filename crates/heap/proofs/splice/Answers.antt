-- `heap::splice` meets its contract: what the move, the copy, the zeros and the shifted ends come to is the pool packed again.
use Rattle.std.proofs.Common.{length, get_or, arith}
use Rattle.heap.specs.Inner.Columns.{datas}
use Rattle.heap.proofs.Splicing.{Marks, marks, splice-whole}
use Rattle.heap.proofs.splice.Goals as goal
use Rattle.heap.proofs.splice.Goals.{After-begins-e}

knows : (c : After-begins-e) → (Marks (datas c.args.n c.args.end.now c.args.pool.now) c.args.n c.args.i c.args.end.now c.begins-a.result (get_or c.args.end.now c.args.i 0) c.begins-e.result (length c.args.new.now) (length c.args.pool.now))
knows c = marks c.args.n c.args.i c.args.end.now c.args.pool.now c.args.new.now c.requires c.begins-a.result c.begins-e.result c.begins-a.ensures c.begins-e.ensures

pub overflow_add-a : goal.overflow_add-a
overflow_add-a c = omega (arith, knows (goal.at.overflow_add-a c).After-begins-e)

pub overflow_sub-e : goal.overflow_sub-e
overflow_sub-e c = omega (arith, knows (goal.at.overflow_sub-e c).After-begins-e)

pub move_within-requires : goal.move_within-requires
move_within-requires c = omega (arith, knows (goal.at.move_within-requires c).After-begins-e)

pub copy-requires : goal.copy-requires
copy-requires c = omega (arith, knows (goal.at.copy-requires c).After-begins-e)

pub overflow_add-a-2 : goal.overflow_add-a-2
overflow_add-a-2 c = omega (arith, knows (goal.at.overflow_add-a-2 c).After-begins-e)

pub overflow_sub-e-2 : goal.overflow_sub-e-2
overflow_sub-e-2 c = omega (arith, knows (goal.at.overflow_sub-e-2 c).After-begins-e)

pub overflow_add-a-3 : goal.overflow_add-a-3
overflow_add-a-3 c = omega (arith, knows (goal.at.overflow_add-a-3 c).After-begins-e)

pub fill-requires : goal.fill-requires
fill-requires c = omega (arith, knows (goal.at.fill-requires c).After-begins-e)

pub overflow_sub-b : goal.overflow_sub-b
overflow_sub-b c = omega (arith, knows (goal.at.overflow_sub-b c).After-begins-e)

pub shift-requires : goal.shift-requires
shift-requires c = (omega (arith, knows (goal.at.shift-requires c).After-begins-e), (knows (goal.at.shift-requires c).After-begins-e).few, λ j h h'. omega (arith, knows (goal.at.shift-requires c).After-begins-e, (knows (goal.at.shift-requires c).After-begins-e).each j h h'))

pub returns : goal.returns
returns c = splice-whole _ _ _ _ _ _ _ _ _ _ _ c.requires c.begins-a.ensures c.begins-e.ensures c.move_within.ensures c.copy.ensures c.fill.ensures c.shift.ensures
