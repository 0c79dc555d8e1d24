use native.Mathlib.Omega.{arith}
use mathlib.Core.Path.{refl}
use Rattle.page_reader.proofs.Parting.{parting-begin, parting-some, parting-fits, parting-inside, parting-free, parting-retired, parting-next, parting-end}
use Rattle.page_reader.proofs.part_free.Goals as goal

pub loop-i-init : goal.loop-i-init
loop-i-init c = parting-begin _ _ _ _ c.requires.values_parsed c.requires.at_in_bounds.0 c.requires.at_in_bounds.1 c.requires.below

pub shape_of-narrow-in_default : goal.shape_of-narrow-in_default
shape_of-narrow-in_default c = absurd (parting-some _ _ _ _ _ _ _ _ _ c.loop-i.invariant c.loop-i-test.true c.get_field.ensures c.in_default.is)

pub returns-in_default : goal.returns-in_default
returns-in_default c = absurd (parting-some _ _ _ _ _ _ _ _ _ c.loop-i.invariant c.loop-i-test.true c.get_field.ensures c.in_default.is)

pub offset_bounds-narrow-v : goal.offset_bounds-narrow-v
offset_bounds-narrow-v c = omega (arith, parting-fits _ _ _ _ _ _ _ _ _ c.loop-i.invariant c.loop-i-test.true c.get_field.ensures _ _ c.in-Some.is)

pub bounds-narrow-v : goal.bounds-narrow-v
bounds-narrow-v c = parting-inside _ _ _ _ _ _ _ _ _ c.loop-i.invariant c.loop-i-test.true c.get_field.ensures _ _ c.in-Some.is

pub overflow_cast-v : goal.overflow_cast-v
overflow_cast-v c = omega (arith, parting-fits _ _ _ _ _ _ _ _ _ c.loop-i.invariant c.loop-i-test.true c.get_field.ensures _ _ c.in-Some.is)

pub put-counts-requires : goal.put-counts-requires
put-counts-requires c = (parting-free _ _ _ _ _ _ _ _ _ c.loop-i.invariant c.loop-i-test.true c.get_field.ensures _ _ c.in-Some.is, parting-retired _ _ _ _ _ _ _ _ _ c.loop-i.invariant c.loop-i-test.true c.get_field.ensures _ _ c.in-Some.is, omega (arith, c.loop-i.invariant.same))

pub loop-i-preserved : goal.loop-i-preserved
loop-i-preserved c = parting-next _ _ _ _ _ _ _ _ _ c.loop-i.invariant c.loop-i-test.true c.get_field.ensures _ _ c.in-Some.is refl c.put-counts.ensures

pub shape_of-narrow : goal.shape_of-narrow
shape_of-narrow c = c.loop-i.invariant.same

pub returns : goal.returns
returns c = parting-end _ _ _ _ _ _ _ _ _ c.loop-i.invariant c.loop-i-test.false
