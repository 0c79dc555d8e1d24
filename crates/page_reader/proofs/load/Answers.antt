use native.Mathlib.Omega.{arith}
use mathlib.Core.Path.{◌∙◌}
use Rattle.page_reader.proofs.Loaded.{loaded, room-data, free_room, free-inside, header-free, header-retired, header-small}
use Rattle.page_reader.proofs.load.Goals as goal

pub invariant_of-lines : goal.invariant_of-lines
invariant_of-lines c = record { parsed = c.args.page.sectioned.slots; inside = c.args.page.sectioned.slots_inside }

pub fill_slots-requires : goal.fill_slots-requires
fill_slots-requires c = (omega (arith, c.args.page.sectioned.slot_count, c.requires.slots, c.fill.auto.self, c.fill-2.auto.self, c.requires.narrow_size, c.requires.wide_size), omega (arith, c.fill.auto.self, c.fill-2.auto.self, c.requires.narrow_size, c.requires.wide_size), omega (arith, room-data _ _ c.args.narrow.now c.args.wide.now c.args.pool.now c.args.page.sectioned c.requires, c.fill-3.auto.self))

pub part_free-c-requires : goal.part_free-c-requires
part_free-c-requires c = let n = c.fill_slots.auto.narrow ∙ c.fill.auto.self in record { values_parsed = c.args.page.sectioned.free; at_in_bounds = (c.args.page.sectioned.free_inside, free_room _ _ c.args.narrow.now c.args.wide.now c.args.pool.now c.args.page.sectioned c.requires n); below = free-inside _ _ c.args.narrow.now c.args.wide.now c.args.pool.now c.args.page.sectioned c.requires n }

pub fill_lists-requires : goal.fill_lists-requires
fill_lists-requires c = record { in_bounds = (omega (arith, c.requires.quarantine, c.fill.auto.self, c.fill-2.auto.self, c.requires.narrow_size, c.requires.wide_size, c.fill_slots.auto.narrow, c.fill_slots.auto.wide, c.part_free-c.auto.narrow), omega (arith, c.requires.retired, c.fill.auto.self, c.fill-2.auto.self, c.requires.narrow_size, c.requires.wide_size, c.fill_slots.auto.narrow, c.fill_slots.auto.wide, c.part_free-c.auto.narrow)); in_bounds_2 = (omega (arith, c.requires.sealed, c.fill.auto.self, c.fill-2.auto.self, c.requires.narrow_size, c.requires.wide_size, c.fill_slots.auto.narrow, c.fill_slots.auto.wide, c.part_free-c.auto.narrow), omega (arith, c.fill.auto.self, c.fill-2.auto.self, c.requires.narrow_size, c.requires.wide_size, c.fill_slots.auto.narrow, c.fill_slots.auto.wide, c.part_free-c.auto.narrow)) }

pub header-requires : goal.header-requires
header-requires c = record { free_value = header-free _ _ c.args.narrow.now c.args.wide.now c.args.pool.now c.args.page.sectioned c.requires (c.fill.ensures.after (λ y e. e)) c.fill_slots.ensures.numbers c.part_free-c.ensures; s_value = header-retired _ _ c.args.narrow.now c.args.wide.now c.args.pool.now c.args.page.sectioned c.requires (c.fill.ensures.after (λ y e. e)) c.fill_slots.ensures.numbers c.part_free-c.ensures; s_bound = header-small _ _ c.args.narrow.now c.args.wide.now c.args.pool.now c.args.page.sectioned c.requires (c.fill.ensures.after (λ y e. e)) c.fill_slots.ensures.numbers c.part_free-c.ensures }

pub shape_of-narrow : goal.shape_of-narrow
shape_of-narrow c = c.fill_lists.auto.narrow ∙ c.part_free-c.auto.narrow ∙ c.fill_slots.auto.narrow ∙ c.fill.auto.self

pub shape_of-wide : goal.shape_of-wide
shape_of-wide c = c.fill_lists.auto.wide ∙ c.fill_slots.auto.wide ∙ c.fill-2.auto.self

pub shape_of-pool : goal.shape_of-pool
shape_of-pool c = c.fill_slots.auto.pool ∙ c.fill-3.auto.self

pub returns : goal.returns
returns c = loaded _ _ c.args.narrow.now c.args.wide.now c.args.pool.now c.args.page.sectioned c.requires c.header.ensures (c.fill.ensures.after (λ y e. e)) (c.fill-2.ensures.after (λ y e. e)) (c.fill-3.ensures.after (λ y e. e)) c.fill_slots.ensures.numbers c.fill_slots.ensures.bytes c.part_free-c.ensures c.fill_lists.ensures
