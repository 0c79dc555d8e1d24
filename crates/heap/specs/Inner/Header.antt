-- The header's parts replaced: what its methods do.
use Rattle.std.specs.Prelude.{ℕ, ◌+◌, ◌%◌, ◌^◌, slice_set}
use Rattle.word.specs.Num.{saturating}
use Rattle.heap.specs.declared.Heap.{Heap}
use Rattle.heap.specs.Header.{set_epoch}

abbrev pub set_since : Heap → ℕ → Heap
set_since h n = record { tag = h.tag; since_gc = n; reclaim_at = h.reclaim_at; live_bytes = h.live_bytes; epoch = h.epoch; log = h.log; slots = h.slots; free = h.free; quarantine = h.quarantine; retired = h.retired; sealed = h.sealed }

abbrev pub set_reclaim : Heap → ℕ → Heap
set_reclaim h n = record { tag = h.tag; since_gc = h.since_gc; reclaim_at = n; live_bytes = h.live_bytes; epoch = h.epoch; log = h.log; slots = h.slots; free = h.free; quarantine = h.quarantine; retired = h.retired; sealed = h.sealed }

abbrev pub set_live : Heap → ℕ → Heap
set_live h n = record { tag = h.tag; since_gc = h.since_gc; reclaim_at = h.reclaim_at; live_bytes = n; epoch = h.epoch; log = h.log; slots = h.slots; free = h.free; quarantine = h.quarantine; retired = h.retired; sealed = h.sealed }

abbrev pub set_slots : Heap → ℕ → Heap
set_slots h n = record { tag = h.tag; since_gc = h.since_gc; reclaim_at = h.reclaim_at; live_bytes = h.live_bytes; epoch = h.epoch; log = h.log; slots = n; free = h.free; quarantine = h.quarantine; retired = h.retired; sealed = h.sealed }

abbrev pub set_free : Heap → ℕ → Heap
set_free h n = record { tag = h.tag; since_gc = h.since_gc; reclaim_at = h.reclaim_at; live_bytes = h.live_bytes; epoch = h.epoch; log = h.log; slots = h.slots; free = n; quarantine = h.quarantine; retired = h.retired; sealed = h.sealed }

abbrev pub set_quarantine : Heap → ℕ → Heap
set_quarantine h n = record { tag = h.tag; since_gc = h.since_gc; reclaim_at = h.reclaim_at; live_bytes = h.live_bytes; epoch = h.epoch; log = h.log; slots = h.slots; free = h.free; quarantine = n; retired = h.retired; sealed = h.sealed }

abbrev pub set_retired : Heap → ℕ → Heap
set_retired h n = record { tag = h.tag; since_gc = h.since_gc; reclaim_at = h.reclaim_at; live_bytes = h.live_bytes; epoch = h.epoch; log = h.log; slots = h.slots; free = h.free; quarantine = h.quarantine; retired = n; sealed = h.sealed }

abbrev pub set_sealed : Heap → ℕ → Heap
set_sealed h n = record { tag = h.tag; since_gc = h.since_gc; reclaim_at = h.reclaim_at; live_bytes = h.live_bytes; epoch = h.epoch; log = h.log; slots = h.slots; free = h.free; quarantine = h.quarantine; retired = h.retired; sealed = n }

-- since_gc grows by n, saturating
abbrev pub set_charged : Heap → ℕ → Heap
set_charged h n = set_since h (saturating 64 h.since_gc n)

-- the next epoch, with slot i logged for it
abbrev pub set_changed : Heap → ℕ → Heap
set_changed h i =
    let e : ℕ = (h.epoch + 1) % 2 ^ 64 in
    set_epoch h e (slice_set h.log (e % 16) i)
