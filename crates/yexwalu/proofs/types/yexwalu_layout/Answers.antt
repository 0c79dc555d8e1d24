-- `yexwalu::types::yexwalu_layout` meets its contract.
use Rattle.yexwalu.proofs.TypeCalls.{layout-refused, layout-passed}
use Rattle.yexwalu.proofs.types.yexwalu_layout.Goals as goal

pub returns-then-not-check_table : goal.returns-then-not-check_table
returns-then-not-check_table c = let p = layout-refused _ _ _ _ _ c.check_table.ensures _ _ _ _ c.if-not-check_table.true c.from.ensures in record { answer = p.0; written = p.1 }

pub returns : goal.returns
returns c = let p = layout-passed _ _ _ _ _ c.check_table.ensures _ _ _ _ c.if-not-check_table.false c.lay_out.ensures.answer c.lay_out.ensures.written c.from-2.ensures in record { answer = p.0; written = p.1 }
