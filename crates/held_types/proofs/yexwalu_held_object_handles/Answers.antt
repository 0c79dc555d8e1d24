-- `held_types::yexwalu_held_object_handles` meets its contract.
use Rattle.held_types.proofs.Telling.{lists}
use Rattle.held_types.proofs.yexwalu_held_object_handles.Goals as goal

pub returns : goal.returns
returns c = let p = lists c.list_object.ensures c.from.ensures in record { answer = p.0; written = p.1 }
