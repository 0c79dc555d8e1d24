-- `yexwalu::handles::yexwalu_object_handles` meets its contract.
use Rattle.yexwalu.proofs.HandleCalls.{list-refused, list-passed}
use Rattle.yexwalu.proofs.handles.yexwalu_object_handles.Goals as goal

pub returns-then-not-check_table : goal.returns-then-not-check_table
returns-then-not-check_table c = list-refused _ _ _ _ c.check_table.ensures c.if-not-check_table.true c.from.ensures _ _

pub returns : goal.returns
returns c = list-passed _ _ _ _ c.check_table.ensures c.if-not-check_table.false c.from-2.ensures c.list_object.ensures
