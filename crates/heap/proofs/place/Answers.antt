-- `heap::place` meets its contract: five entries set, and the data and the ends spliced.
use Rattle.std.proofs.Common.{arith, length-set}
use Rattle.heap.proofs.Runs.{place-room, place-can, place_same, place-done}
use Rattle.heap.proofs.place.Goals as goal

pub bounds-narrow-s : goal.bounds-narrow-s
bounds-narrow-s c = simp length-set (omega arith)

pub bounds-narrow-two : goal.bounds-narrow-two
bounds-narrow-two c = simp length-set (omega arith)

pub bounds-wide-i : goal.bounds-wide-i
bounds-wide-i c = omega (arith, place-room c.args.heap c.args.narrow.now c.args.wide.now c.args.pool.now c.args.i c.args.new.bytes.now c.requires)

pub bounds-wide-two : goal.bounds-wide-two
bounds-wide-two c = simp length-set (omega (arith, place-room c.args.heap c.args.narrow.now c.args.wide.now c.args.pool.now c.args.i c.args.new.bytes.now c.requires))

pub slice_bounds-splice-end : goal.slice_bounds-splice-end
slice_bounds-splice-end c = simp length-set (omega (arith, place-room c.args.heap c.args.narrow.now c.args.wide.now c.args.pool.now c.args.i c.args.new.bytes.now c.requires))

pub splice-requires : goal.splice-requires
splice-requires c = place-can c.args.heap c.args.narrow.now c.args.wide.now c.args.pool.now c.args.i c.args.new.bytes.now c.requires c.args.new.generation c.args.new.kind c.args.new.ty c.args.new.start c.args.new.writes

pub shape_of-wide : goal.shape_of-wide
shape_of-wide c = place_same c.args.heap c.args.narrow.now c.args.wide.now c.args.pool.now c.args.i c.args.new.bytes.now c.requires c.args.new.generation c.args.new.kind c.args.new.ty c.args.new.start c.args.new.writes c.splice.new.end c.splice.auto.end

pub returns : goal.returns
returns c = place-done c.args.heap c.args.narrow.now c.args.wide.now c.args.pool.now c.args.i c.args.new.bytes.now c.requires c.args.new.generation c.args.new.kind c.args.new.ty c.args.new.start c.args.new.writes _ _ c.splice.auto.end c.splice.ensures
