-- `trace::tracer::fields_at` meets its contract.
use Rattle.ty.proofs.Rows.{row-is}
use Rattle.trace.proofs.TraceLaws.{looked-not}
use Rattle.trace.proofs.tracer.fields_at.Goals as goal

pub returns-then-left-eq0 : goal.returns-then-left-eq0
returns-then-left-eq0 c = looked-not _ _ _ _

pub returns : goal.returns
returns c = λ i n q. record { level = c.if-left-eq0.false; handles = c.if-not-holds.false; row = row-is _ _ c.fields_at.ensures i n q }
