-- `held_reads::yexwalu_held_slot_handles` meets its contract.
use lib.ListN.{length}
use Rattle.ty.specs.View.{table_of}
use Rattle.slot_door.specs.SlotHandles.{slot_handles}
use Rattle.held_reads.proofs.Reading.{listed}
use Rattle.held_reads.proofs.yexwalu_held_slot_handles.Goals as goal

pub returns : goal.returns
returns c =
    let p = listed _ c.see-view.result c.see-view.ensures (slot_handles (table_of c.args.types.now c.args.fields.now c.args.consts.now c.args.bytes.now) c.args.slot (length c.args.out.now)) c.list_slot.ensures c.from.ensures in
    record { answer = p.0; out_after = p.1 }
