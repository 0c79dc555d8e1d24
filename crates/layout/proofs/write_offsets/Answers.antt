use native.Mathlib.Omega.{arith}
use Rattle.layout.proofs.LayLaws.{rest-used}
use Rattle.layout.proofs.OffsetLaws.{writing_start, writing-stop, writing-next, off-last, off-none, off-align, off-size, off-more}
use Rattle.layout.proofs.write_offsets.Goals as goal

pub loop-i-init : goal.loop-i-init
loop-i-init c = writing_start _ _ _ _ _ _ c.args.out.now c.requires.1

pub returns-in_default : goal.returns-in_default
returns-in_default c = writing-stop _ _ _ _ _ _ _ _ _ _ c.loop-i.invariant (off-none _ _ _ _ _ _ _ _ _ c.loop-i-test.true _ c.layout_field.ensures _ c.in_default.is)

pub returns-in_default-align_up : goal.returns-in_default-align_up
returns-in_default-align_up c = writing-stop _ _ _ _ _ _ _ _ _ _ c.loop-i.invariant (off-align _ _ _ _ _ _ _ _ _ c.loop-i-test.true _ c.layout_field.ensures _ c.in-Ok.is _ c.align_up.ensures c.in_default-align_up.is)

pub returns-in_default-sum : goal.returns-in_default-sum
returns-in_default-sum c = writing-stop _ _ _ _ _ _ _ _ _ _ c.loop-i.invariant (off-size _ _ _ _ _ _ _ _ _ c.loop-i-test.true _ c.layout_field.ensures _ c.in-Ok.is _ c.align_up.ensures _ c.in-Some.is _ c.sum.ensures c.in_default-sum.is)

pub overflow_add-used : goal.overflow_add-used
overflow_add-used c = let k = rest-used _ _ _ _ _ c.args.desc.now _ c.layout_field.ensures _ c.in-Ok.is _ c.used_by-used.ensures c.loop-i.invariant.within in omega (arith, c.well_formed)

pub loop-i-preserved : goal.loop-i-preserved
loop-i-preserved c = writing-next _ _ _ _ _ _ _ _ _ _ c.loop-i.invariant c.loop-i-test.true _ _ _ (off-more _ _ _ _ _ _ _ _ _ c.loop-i-test.true _ c.layout_field.ensures _ c.in-Ok.is _ c.align_up.ensures _ c.in-Some.is _ c.sum.ensures _ c.in-Some-sum.is _ c.used_by-used.ensures) (rest-used _ _ _ _ _ c.args.desc.now _ c.layout_field.ensures _ c.in-Ok.is _ c.used_by-used.ensures c.loop-i.invariant.within)

pub returns : goal.returns
returns c = writing-stop _ _ _ _ _ _ _ _ _ _ c.loop-i.invariant (off-last _ _ _ _ _ _ _ _ _ c.loop-i-test.false)
