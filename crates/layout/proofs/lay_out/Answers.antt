-- `layout::lay_out` meets its contract.
use Rattle.layout.proofs.ScalarLaws.{row_within, scalars-answer, scalars-written}
use Rattle.layout.proofs.lay_out.Goals as goal

pub layout_scalars-requires : goal.layout_scalars-requires
layout_scalars-requires c = let g = c.scalar_record.ensures _ _ c.in-Some.is in (row_within _ _ _ _ _ g, g.room, g.few, g.scalars)

pub returns : goal.returns
returns c = let g = c.scalar_record.ensures _ _ c.in-Some.is in record { answer = scalars-answer _ _ _ _ _ g.row _ _ _ c.layout_scalars.ensures; written = scalars-written _ _ _ _ _ g.row _ _ _ c.layout_scalars.ensures }
