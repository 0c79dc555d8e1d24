-- `held_saves::yexwalu_held_order` meets its contract.
use Rattle.saves.specs.Saves.{words_of, save_of}
use Rattle.same_door.proofs.Telling.{order-told}
use Rattle.held.specs.Held.{in_place}
use Rattle.held_saves.proofs.Comparing.{compared-in-place}
use Rattle.held_saves.proofs.yexwalu_held_order.Goals as goal

pub returns : goal.returns
returns c =
    let p = order-told (words_of c.args.types.now c.args.fields.now c.args.consts.now c.args.bytes.now)
    (save_of (in_place c.args.tag.now c.args.numbers.now c.args.log.now c.args.lengths.now c.args.narrow.now c.args.wide.now c.args.pool.now) c.args.roots.now c.args.marks.now c.args.work.now)
    (save_of (in_place c.args.other_tag.now c.args.other_numbers.now c.args.other_log.now c.args.other_lengths.now c.args.other_narrow.now c.args.other_wide.now c.args.other_pool.now) c.args.other_roots.now c.args.other_marks.now c.args.other_work.now)
    _ _ (compared-in-place (words_of c.args.types.now c.args.fields.now c.args.consts.now c.args.bytes.now) c.args.roots.now c.args.other_roots.now c.args.marks.now c.args.work.now c.args.other_marks.now c.args.other_work.now _ c.see-view.ensures c.see-other.ensures c.compare_known-found.ensures)
    _ _ c.from.ensures c.map.ensures.cases in
    record { other_work_after = p.0; right_order = p.1 }
