-- `yexwalu::types::yexwalu_desc_size` meets its contract.
use Rattle.yexwalu.proofs.TypeCalls.{answer-refused, size-passed}
use Rattle.yexwalu.proofs.types.yexwalu_desc_size.Goals as goal

pub returns-then-not-check_table : goal.returns-then-not-check_table
returns-then-not-check_table c = answer-refused _ _ _ _ 0 c.check_table.ensures _ c.if-not-check_table.true c.from.ensures

pub returns : goal.returns
returns c = size-passed _ _ _ _ _ c.check_table.ensures c.if-not-check_table.false c.tell_size.ensures
