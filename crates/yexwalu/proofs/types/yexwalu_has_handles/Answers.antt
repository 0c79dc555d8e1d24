-- `yexwalu::types::yexwalu_has_handles` meets its contract.
use Rattle.yexwalu.proofs.TypeCalls.{answer-refused, handles-told}
use Rattle.yexwalu.proofs.types.yexwalu_has_handles.Goals as goal

pub returns-then-not-check_table : goal.returns-then-not-check_table
returns-then-not-check_table c = answer-refused _ _ _ _ 0 c.check_table.ensures _ c.if-not-check_table.true c.from.ensures

pub returns : goal.returns
returns c = handles-told _ _ _ _ _ c.check_table.ensures c.if-not-check_table.false c.has_handles.ensures c.from-2.ensures c.from-3.ensures
