-- `yexwalu::handles::yexwalu_slot_roots` meets its contract.
use Rattle.yexwalu.proofs.HandleCalls.{roots-refused, roots-passed}
use Rattle.yexwalu.proofs.handles.yexwalu_slot_roots.Goals as goal

pub returns-then-not-check_table : goal.returns-then-not-check_table
returns-then-not-check_table c = roots-refused _ _ _ _ c.check_table.ensures c.if-not-check_table.true c.from.ensures _ _ _

pub returns : goal.returns
returns c = roots-passed _ _ _ _ c.check_table.ensures c.if-not-check_table.false c.from-2.ensures c.list_roots.ensures
