-- `trace::tracer::place_field` meets its contract.
use mathlib.Core.Path.{sym, ◌∙◌}
use Rattle.trace.proofs.TraceLaws.{no-layout, a-layout, place-scalar, place_none, place-laid}
use Rattle.trace.proofs.tracer.place_field.Goals as goal

pub returns-in-Some : goal.returns-in-Some
returns-in-Some c = place-scalar c.args.table.now _ _ c.args.used c.args.desc.now _ _ (sym c.scalar_bytes.ensures ∙ c.in-Some.is) _ c.place_after.ensures

pub returns-in_err-l : goal.returns-in_err-l
returns-in_err-l c = c.from_residual.ensures ∙ no-layout _ _ c.ok.ensures.value c.in_err-l.was (place_none c.args.table.now _ _ c.args.used c.args.desc.now _ _ c.layout_below.ensures)

pub returns : goal.returns
returns c = place-laid c.args.table.now _ _ c.args.used c.args.desc.now _ _ c.layout_below.ensures _ (a-layout _ _ c.ok.ensures.value _ c.in_ok-l.was) _ c.place_after-2.ensures
