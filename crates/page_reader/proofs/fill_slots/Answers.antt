use Prim.Native.Nat.{◌-◌}
use Rattle.text.proofs.Copying.{unlost}
use Rattle.page_reader.proofs.Pooling.{pooling-begin, pooling-some, line-end, line-data, line-digits, data-there, data-size, data-fits, pooling-next, pooling-end}
use native.Mathlib.Omega.{arith}
use lib.ListN.{length-set}
use Rattle.page_reader.proofs.Numbers.{filling-begin, filling-some, filling-next, filling-end, generation-fits, kind_fits, type_fits, size_fits}
use Rattle.page_reader.proofs.fill_slots.Goals as goal

pub overflow_mul-two : goal.overflow_mul-two
overflow_mul-two c = omega arith

pub loop-i-init : goal.loop-i-init
loop-i-init c = (filling-begin _ _ _ _ _ c.args.lines.parsed c.args.lines.inside c.requires.0 c.requires.1, search pooling-begin)

pub shape_of-narrow-in_default : goal.shape_of-narrow-in_default
shape_of-narrow-in_default c = absurd (filling-some _ _ _ _ _ _ _ _ _ _ c.loop-i.invariant.0 c.loop-i-test.true c.get_slot.ensures c.in_default.is)

pub shape_of-wide-in_default : goal.shape_of-wide-in_default
shape_of-wide-in_default c = absurd (filling-some _ _ _ _ _ _ _ _ _ _ c.loop-i.invariant.0 c.loop-i-test.true c.get_slot.ensures c.in_default.is)

pub returns-in_default : goal.returns-in_default
returns-in_default c = absurd (filling-some _ _ _ _ _ _ _ _ _ _ c.loop-i.invariant.0 c.loop-i-test.true c.get_slot.ensures c.in_default.is)

pub overflow_cast-narrow : goal.overflow_cast-narrow
overflow_cast-narrow c = omega (arith, generation-fits _ _ _ _ _ _ _ _ _ _ c.loop-i.invariant.0 c.loop-i-test.true c.get_slot.ensures _ c.in-Some.is)

pub offset_bounds-narrow-i : goal.offset_bounds-narrow-i
offset_bounds-narrow-i c = omega (arith, c.loop-i-test.true, c.loop-i.invariant.0.room, c.loop-i.invariant.0.runs, c.well_formed, c.ranges)

pub bounds-narrow-i : goal.bounds-narrow-i
bounds-narrow-i c = omega (arith, c.loop-i-test.true, c.loop-i.invariant.0.same, c.loop-i.invariant.0.same_wide, c.loop-i.invariant.0.room, c.loop-i.invariant.0.runs)

pub overflow_cast-narrow-in-loop-i : goal.overflow_cast-narrow-in-loop-i
overflow_cast-narrow-in-loop-i c = omega (arith, kind_fits _ _ _ _ _ _ _ _ _ _ c.loop-i.invariant.0 c.loop-i-test.true c.get_slot.ensures _ c.in-Some.is)

pub overflow_add-narrow : goal.overflow_add-narrow
overflow_add-narrow c = omega (arith, c.loop-i-test.true, c.loop-i.invariant.0.room, c.loop-i.invariant.0.runs, c.well_formed, c.ranges)

pub offset_bounds-narrow-all : goal.offset_bounds-narrow-all
offset_bounds-narrow-all c = omega (arith, c.loop-i-test.true, c.loop-i.invariant.0.room, c.loop-i.invariant.0.runs, c.well_formed, c.ranges)

pub bounds-narrow-all : goal.bounds-narrow-all
bounds-narrow-all c = simp length-set (omega (arith, c.loop-i-test.true, c.loop-i.invariant.0.same, c.loop-i.invariant.0.same_wide, c.loop-i.invariant.0.room, c.loop-i.invariant.0.runs))

pub overflow_cast-narrow-in-loop-i-2 : goal.overflow_cast-narrow-in-loop-i-2
overflow_cast-narrow-in-loop-i-2 c = omega (arith, type_fits _ _ _ _ _ _ _ _ _ _ c.loop-i.invariant.0 c.loop-i-test.true c.get_slot.ensures _ c.in-Some.is)

pub overflow_add-narrow-in-loop-i : goal.overflow_add-narrow-in-loop-i
overflow_add-narrow-in-loop-i c = omega (arith, c.loop-i-test.true, c.loop-i.invariant.0.room, c.loop-i.invariant.0.runs, c.well_formed, c.ranges)

pub offset_bounds-narrow-two : goal.offset_bounds-narrow-two
offset_bounds-narrow-two c = omega (arith, c.loop-i-test.true, c.loop-i.invariant.0.room, c.loop-i.invariant.0.runs, c.well_formed, c.ranges)

pub bounds-narrow-two : goal.bounds-narrow-two
bounds-narrow-two c = simp length-set (omega (arith, c.loop-i-test.true, c.loop-i.invariant.0.same, c.loop-i.invariant.0.same_wide, c.loop-i.invariant.0.room, c.loop-i.invariant.0.runs))

pub offset_bounds-wide-i : goal.offset_bounds-wide-i
offset_bounds-wide-i c = omega (arith, c.loop-i-test.true, c.loop-i.invariant.0.room, c.loop-i.invariant.0.runs, c.well_formed, c.ranges)

pub bounds-wide-i : goal.bounds-wide-i
bounds-wide-i c = omega (arith, c.loop-i-test.true, c.loop-i.invariant.0.same, c.loop-i.invariant.0.same_wide, c.loop-i.invariant.0.room, c.loop-i.invariant.0.runs)

pub overflow_add-wide : goal.overflow_add-wide
overflow_add-wide c = omega (arith, c.loop-i-test.true, c.loop-i.invariant.0.room, c.loop-i.invariant.0.runs, c.well_formed, c.ranges)

pub offset_bounds-wide-two : goal.offset_bounds-wide-two
offset_bounds-wide-two c = omega (arith, c.loop-i-test.true, c.loop-i.invariant.0.room, c.loop-i.invariant.0.runs, c.well_formed, c.ranges)

pub bounds-wide-two : goal.bounds-wide-two
bounds-wide-two c = simp length-set (omega (arith, c.loop-i-test.true, c.loop-i.invariant.0.same, c.loop-i.invariant.0.same_wide, c.loop-i.invariant.0.room, c.loop-i.invariant.0.runs))

pub overflow_add-from : goal.overflow_add-from
overflow_add-from c = omega (arith, size_fits _ _ _ _ _ _ _ _ _ _ c.loop-i.invariant.0 c.loop-i-test.true c.get_slot.ensures _ c.in-Some.is, c.well_formed, c.ranges)

pub overflow_add-wide-in-loop-i : goal.overflow_add-wide-in-loop-i
overflow_add-wide-in-loop-i c = omega (arith, c.loop-i-test.true, c.loop-i.invariant.0.room, c.loop-i.invariant.0.runs, c.well_formed, c.ranges)

pub offset_bounds-wide-all : goal.offset_bounds-wide-all
offset_bounds-wide-all c = omega (arith, c.loop-i-test.true, c.loop-i.invariant.0.room, c.loop-i.invariant.0.runs, c.well_formed, c.ranges)

pub bounds-wide-all : goal.bounds-wide-all
bounds-wide-all c = simp length-set (omega (arith, c.loop-i-test.true, c.loop-i.invariant.0.same, c.loop-i.invariant.0.same_wide, c.loop-i.invariant.0.room, c.loop-i.invariant.0.runs))

pub shape_of-pool-in_default : goal.shape_of-pool-in_default
shape_of-pool-in_default c = absurd (search pooling-some)

pub overflow_sub-hex : goal.overflow_sub-hex
overflow_sub-hex c = search line-end

pub overflow_sub-hex-in-loop-i : goal.overflow_sub-hex-in-loop-i
overflow_sub-hex-in-loop-i c = search line-data

pub overflow_sub-hex-in-loop-i-2 : goal.overflow_sub-hex-in-loop-i-2
overflow_sub-hex-in-loop-i-2 c = search line-digits

pub invariant_of-hex : goal.invariant_of-hex
invariant_of-hex c = record { spelled = (unlost c.args.lines.text.now (c.in-Some.x.next - 1 - c.in-Some.x.bytes - c.in-Some.x.bytes) (search data-there), search data-size) }

pub fill_column-to-requires : goal.fill_column-to-requires
fill_column-to-requires c = search data-fits

pub loop-i-preserved : goal.loop-i-preserved
loop-i-preserved c = (filling-next _ _ _ _ _ _ _ _ _ _ c.loop-i.invariant.0 c.loop-i-test.true c.get_slot.ensures _ c.in-Some.is, search pooling-next)

pub shape_of-narrow : goal.shape_of-narrow
shape_of-narrow c = c.loop-i.invariant.0.same

pub shape_of-wide : goal.shape_of-wide
shape_of-wide c = c.loop-i.invariant.0.same_wide

pub returns : goal.returns
returns c = record { numbers = filling-end _ _ _ _ _ _ _ _ _ _ c.loop-i.invariant.0 c.loop-i-test.false; bytes = search pooling-end }
