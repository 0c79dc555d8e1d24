use native.Mathlib.Omega.{arith}
use mathlib.Core.Path.{ap, ◌∙◌}
use Prim.Native.Nat.{◌/◌}
use lib.ListN.{length}
use Rattle.text.specs.Put.{put_text}
use Rattle.page_reader.proofs.Lists.{part_room, quarantine-room, retired_room, lists_filled}
use Rattle.page_reader.proofs.fill_lists.Goals as goal

pub fill_values-requires : goal.fill_values-requires
fill_values-requires c = record { values_parsed = c.args.page.sectioned.quarantine; at_in_bounds = (c.args.page.sectioned.quarantine_inside, quarantine-room c.args.narrow.now _ (omega (arith, c.args.page.sectioned.quarantine_count, c.requires.in_bounds.0))) }

pub fill_values-requires-2 : goal.fill_values-requires-2
fill_values-requires-2 c = record { values_parsed = c.args.page.sectioned.retired; at_in_bounds = (c.args.page.sectioned.retired_inside, retired_room c.args.narrow.now c.fill_values.new.list _ c.fill_values.auto.list (omega (arith, c.args.page.sectioned.retired_count, c.requires.in_bounds.1))) }

pub fill_values-requires-3 : goal.fill_values-requires-3
fill_values-requires-3 c = record { values_parsed = c.args.page.sectioned.sealed; at_in_bounds = (c.args.page.sectioned.sealed_inside, part_room (length c.args.narrow.now / 6) _ _ _ _ (omega arith) c.requires.in_bounds_2.1 (omega (arith, c.args.page.sectioned.sealed_count, c.requires.in_bounds_2.0))) }

pub returns : goal.returns
returns c = lists_filled c.args.narrow.now c.args.wide.now _ _ _ _ _ _ c.requires.in_bounds_2.1 (c.fill_values.ensures ∙ ap (put_text _ 0) c.args.page.sectioned.quarantine_are) c.fill_values.auto.list (c.fill_values-2.ensures ∙ ap (put_text _ 0) c.args.page.sectioned.retired_are) c.fill_values-2.auto.list (c.fill_values-3.ensures ∙ ap (put_text _ 0) c.args.page.sectioned.sealed_are) c.fill_values-3.auto.list
