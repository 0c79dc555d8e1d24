-- `layout::layout_listed` meets its contract.
use mathlib.Core.Path.{refl, ◌∙◌}
use native.Mathlib.Omega.{arith}
use Rattle.layout.proofs.LayLaws.{rest-used, record-first, record-none, record-over, record-more, record-last}
use Rattle.layout.proofs.OffsetLaws.{writing_start, writing-stop, writing-next, off-last, off-more}
use Rattle.layout.proofs.Few.{placed-over, placed-is, listed-fails}
use Rattle.layout.proofs.Stops.{stops, hands_on}
use Rattle.layout.proofs.layout_listed.Goals as goal

pub loop-i-init : goal.loop-i-init
loop-i-init c = (writing_start _ _ _ _ _ _ c.args.out.now c.requires.1, record-first c.args.table.now _ _ _ _)

pub returns-in_err-l : goal.returns-in_err-l
returns-in_err-l c = listed-fails _ _ _ _ _ _ _ _ (hands_on _ _ c.from_residual.ensures.1) (record-none c.args.table.now _ _ _ _ _ _ _ _ _ c.loop-i.invariant.1 c.loop-i-test.true _ c.layout_field.ensures _ c.in_err-l.was)

pub returns-in_err-o : goal.returns-in_err-o
returns-in_err-o c =
    listed-fails _ _ _ _ _ _ _ _ (stops _ _ _ _ c.in_err-o.ensures.value c.from_residual-in_err-o.ensures.1)
    (record-over c.args.table.now _ _ _ _ _ _ _ _ _ c.loop-i.invariant.1 c.loop-i-test.true _ c.layout_field.ensures _ c.in_ok-l.was _ refl (placed-over _ _ _ _ c.align_up.ensures c.in_err-o.ensures.ok_part))

pub returns-in_err-end : goal.returns-in_err-end
returns-in_err-end c =
    listed-fails _ _ _ _ _ _ _ _ (stops _ _ _ _ c.in_err-end.ensures.value c.from_residual-in_err-end.ensures.1)
    (record-over c.args.table.now _ _ _ _ _ _ _ _ _ c.loop-i.invariant.1 c.loop-i-test.true _ c.layout_field.ensures _ c.in_ok-l.was _ refl (placed-is _ _ _ _ c.align_up.ensures _ c.in_ok-o.ensures.ok_part _ c.sum.ensures ∙ c.in_err-end.ensures.ok_part))

pub overflow_add-used : goal.overflow_add-used
overflow_add-used c = let k = rest-used _ _ _ _ _ c.args.desc.now _ c.layout_field.ensures _ c.in_ok-l.was _ c.used_by-used.ensures c.loop-i.invariant.0.within in omega (arith, c.well_formed)

pub loop-i-preserved : goal.loop-i-preserved
loop-i-preserved c = (
  writing-next _ _ _ _ _ _ _ _ _ _ c.loop-i.invariant.0 c.loop-i-test.true _ _ _ (off-more _ _ _ _ _ _ _ _ _ c.loop-i-test.true _ c.layout_field.ensures _ c.in_ok-l.was _ c.align_up.ensures _ c.in_ok-o.ensures.ok_part _ c.sum.ensures _ c.in_ok-end.ensures.ok_part _ c.used_by-used.ensures) (rest-used _ _ _ _ _ c.args.desc.now _ c.layout_field.ensures _ c.in_ok-l.was _ c.used_by-used.ensures c.loop-i.invariant.0.within),
  record-more c.args.table.now _ _ _ _ _ _ _ _ _ c.loop-i.invariant.1 c.loop-i-test.true _ c.layout_field.ensures _ c.in_ok-l.was _ refl _ (placed-is _ _ _ _ c.align_up.ensures _ c.in_ok-o.ensures.ok_part _ c.sum.ensures ∙ c.in_ok-end.ensures.ok_part) _ _ c.max-align.ensures c.used_by-used.ensures,
)

pub returns : goal.returns
returns c = record {
  answer = record-last c.args.table.now _ _ _ _ _ _ _ _ _ c.loop-i.invariant.1 c.loop-i-test.false _ c.record_end.ensures;
  written = λ l q. writing-stop _ _ _ _ _ _ _ _ _ _ c.loop-i.invariant.0 (off-last _ _ _ _ _ _ _ _ _ c.loop-i-test.false);
}
