-- What the second pass leaves in the lent runs.
use Rattle.std.specs.Prelude.{ℕ, ◌+◌, ◌*◌, ◌/◌, ◌≤◌, Bool, true, not, List, map, ◌≡◌, length, set, if◌then◌else◌, filter}
use Rattle.word.specs.Lists.{all}
use Rattle.word.specs.Run.{run}
use Rattle.heap.specs.State.{State, data_size, Slot, slot_at, data_of, worn}
use Rattle.heap.specs.Inner.Columns.{worn_in, Below}
use Rattle.heap.specs.Packing.{ends}
use Rattle.heap.specs.Lent.{Lent, columns, lent}
use Rattle.heap.specs.declared.Heap.{Heap}
use Rattle.text.specs.Put.{put_text}

-- a column holds one part of each slot, and is as it was after these
abbrev pub filled : (Slot → ℕ) → List Slot → List ℕ → List ℕ
filled part slots before = put_text before 0 (map part slots)

-- the numbers of slots in six columns; where data ends goes up by each slot's bytes
abbrev pub with_numbers : Lent → List Slot → Lent
with_numbers l slots =
    columns l.header l.count (filled (λ x. x.generation) slots l.generation) (filled (λ x. x.kind) slots l.kind) (filled (λ x. x.type) slots l.type)
    (filled (λ x. x.start) slots l.start) (put_text l.end 0 (ends 0 (data_of slots))) (filled (λ x. x.writes) slots l.writes) l.pool l.free l.quarantine
    l.sealed l.retired l.over

-- a list of free slots parted: the worn-out ones retire
abbrev pub stay_free : (generations : List ℕ) → List ℕ → List ℕ
stay_free gs = filter (λ i. not (worn_in gs i))

abbrev pub retire : (generations : List ℕ) → List ℕ → List ℕ
retire gs = filter (worn_in gs)

-- both parts in their columns
abbrev pub with_parted : Lent → List ℕ → Lent
with_parted l xs =
    columns l.header l.count l.generation l.kind l.type l.start l.end l.writes l.pool (put_text l.free 0 (stay_free l.generation xs)) l.quarantine
    l.sealed (put_text l.retired 0 (retire l.generation xs)) l.over

-- the other lists in three columns
abbrev pub with_lists : Lent → (quarantine retired sealed : List ℕ) → Lent
with_lists l q r z =
    columns l.header l.count l.generation l.kind l.type l.start l.end l.writes l.pool l.free (put_text l.quarantine 0 q)
    (put_text l.sealed 0 z) (put_text l.retired 0 r) l.over

-- one entry of the free list put where it belongs, in the runs of S
pub record PutIn (worn : Bool) (v S f r : ℕ) (narrow : List ℕ) (f' r' : ℕ) (narrow' : List ℕ) : Type 0 where
  pub free_count : f' ≡ if worn then f else (f + 1)
  pub retired_count : r' ≡ if worn then (r + 1) else r
  pub list : narrow' ≡ if worn then set narrow (5 * S + r) v else set narrow (3 * S + f) v

-- the generations of all slots, in the first run
abbrev pub ages : (narrow : List ℕ) → List ℕ
ages narrow = run (length narrow / 6) 0 narrow

pub record FreeParted (narrow narrow' list : List ℕ) (free retired : ℕ) : Type 0 where
  pub free_count : free ≡ length (stay_free (ages narrow) list)
  pub retired_count : retired ≡ length (retire (ages narrow) list)
  pub parted : (h : Heap) (wide pool : List ℕ) → lent h narrow' wide pool ≡ with_parted (lent h narrow wide pool) list

-- narrow and wide lists before and after, with whatever header and pool they are lent
pub record NumbersFilled (narrow wide narrow' wide' : List ℕ) (slots : List Slot) : Type 0 where
  pub numbers : (h : Heap) (pool : List ℕ) → lent h narrow' wide' pool ≡ with_numbers (lent h narrow wide pool) slots

pub record ListsFilled (narrow wide narrow' wide' quarantine retired sealed : List ℕ) : Type 0 where
  pub lists : (h : Heap) (pool : List ℕ) → lent h narrow' wide' pool ≡ with_lists (lent h narrow wide pool) quarantine retired sealed

-- six narrow runs and four wide ones, with room for what a page says; its free slots are slots, and where it lists the retired, none of them is worn out
pub record Roomy (narrow wide pool : ℕ) (retiring : Bool) (h : State) : Type 0 where
  pub narrow_size : narrow ≡ 6 * (narrow / 6)
  pub wide_size : wide ≡ 4 * (narrow / 6)
  pub slots : length h.slots ≤ narrow / 6
  pub bytes : data_size h.slots ≤ pool
  pub free : length h.free ≤ narrow / 6
  pub quarantine : length h.quarantine ≤ narrow / 6
  pub sealed : length h.sealed ≤ narrow / 6
  pub retired : length h.retired ≤ narrow / 6
  pub below : Below (narrow / 6) h.free
  pub young : retiring ≡ true → all (λ i. not (worn (slot_at h i))) h.free ≡ true
  pub few : narrow / 6 ≤ 16777216
