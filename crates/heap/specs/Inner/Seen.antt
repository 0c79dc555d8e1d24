-- The heap that a view shows, and what of a slot's data is visible.
use Rattle.std.specs.Prelude.{ℕ, ◌+◌, ◌-◌, not, length, take, nat_lt, if◌then◌else◌, Result, Ok, Err, Option, Some, None}
use Rattle.refusal.specs.declared.Refusal.{Refusal}
use Rattle.refusal.specs.declared.Refusal.TheVariants.{NothingThere}
use Rattle.heap.specs.Lent.{Lent, lent, view}
use Rattle.heap.specs.State.{Slot, State, slot_at, live, data_size}
use Rattle.heap.specs.declared.view.View.{View}

-- what is lent
abbrev pub seen : View → Lent
seen v = lent v.heap v.narrow.now v.wide.now v.pool.now

-- the heap that lies there
abbrev pub state : View → State
state v = view (seen v)

-- refused where no live slot is, nothing where its start is beyond its data
unfoldable pub seen_at : State → ℕ → Result (Option (ℕ × ℕ)) Refusal
seen_at h i =
    let s : Slot = slot_at h i in
    if not (live s) then Err NothingThere
    else if nat_lt (length s.bytes) s.start then Ok None
    else Ok (Some (data_size (take i h.slots) + s.start, length s.bytes - s.start))
