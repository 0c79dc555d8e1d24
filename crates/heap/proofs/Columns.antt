-- What stands in the lists of a heap that lies well formed. Assumes nothing.
use Rattle.std.proofs.Common.{◌≡◌, ℕ, zero, suc, ◌+◌, ◌*◌, ◌/◌, ◌<◌, ◌≤◌, true, List, [], ◌∷◌, length, get_or, take, drop, sym, refl, ap, ◌∙◌, arith, length-append, take_all}
use lib.ListN.{length-map, get_or-map}
use Rattle.word.specs.Run.{run, start_of}
use Rattle.word.proofs.RunLaws.{run-get, first-get}
use Rattle.heap.specs.Packing.{pad, ends}
use Rattle.std.specs.List.{concat}
use Rattle.heap.specs.State.{Slot, State, no_slot, slot_at, data_of, data_size}
use Rattle.heap.specs.Lent.{Lent, lent, stored, view, slot_count, pool_size}
use Rattle.heap.specs.WellFormed.{well_formed}
use Rattle.heap.specs.declared.Heap.{Heap}
use Rattle.heap.proofs.Packing.{start-of, end_of, concat-split}
use Rattle.heap.proofs.Sound.{WellFormed}
use Rattle.heap.proofs.Storing.{column-any}
use Rattle.heap.proofs.Changing.{Known, known}
use Rattle.heap.proofs.Testing.{formed-tested}
use Rattle.heap.proofs.Runs.{wide_room}

-- ---- how a heap lies: what a column of the slots has at i, also where there is no slot

take-data : (n : ℕ) (l : List Slot) → take n (data_of l) ≡ data_of (take n l)
take-data zero l = refl
take-data (suc n) [] = refl
take-data (suc n) (s ∷ l) = ap (λ (x : List (List ℕ)). s.bytes ∷ x) (take-data n l)

module _ (S P : ℕ) (h : State) (i : ℕ) where
  generation-at : get_or (stored S P h).generation i 0 ≡ (slot_at h i).generation
  unfolding stored
  generation-at = column-any S (λ (s : Slot). s.generation) h.slots i refl

  kind_at : get_or (stored S P h).kind i 0 ≡ (slot_at h i).kind
  unfolding stored
  kind_at = column-any S (λ (s : Slot). s.kind) h.slots i refl

  type-at : get_or (stored S P h).type i 0 ≡ (slot_at h i).type
  unfolding stored
  type-at = column-any S (λ (s : Slot). s.type) h.slots i refl

  start-at : get_or (stored S P h).start i 0 ≡ (slot_at h i).start
  unfolding stored
  start-at = column-any S (λ (s : Slot). s.start) h.slots i refl

  writes_at : get_or (stored S P h).writes i 0 ≡ (slot_at h i).writes
  unfolding stored
  writes_at = column-any S (λ (s : Slot). s.writes) h.slots i refl

  data-long : length (data_of h.slots) ≡ length h.slots
  data-long = length-map h.slots (λ (s : Slot). s.bytes)

  -- where its data starts and ends in the pool
  pub from_at : i ≤ length h.slots → start_of (stored S P h).end i ≡ data_size (take i h.slots)
  unfolding stored
  from_at b = start-of S (data_of h.slots) i (omega (arith, data-long)) ∙ ap (λ (x : List (List ℕ)). length (concat x)) (take-data i h.slots)

  to_at : i < length h.slots → get_or (stored S P h).end i 0 ≡ start_of (stored S P h).end i + length (slot_at h i).bytes
  unfolding stored
  to_at b =
      end_of S (data_of h.slots) i (omega (arith, data-long))
      ∙ ap (λ (n : ℕ). n + length (get_or (data_of h.slots) i [])) (sym (start-of S (data_of h.slots) i (omega (arith, data-long))))
      ∙ ap (λ (x : List ℕ). start_of (pad S (ends 0 (data_of h.slots))) i + length x) (get_or-map (λ (s : Slot). s.bytes) h.slots i no_slot)

-- the data of the slots before one, and its own, are part of all data
pub data-upto : (slots : List Slot) (i : ℕ) → i < length slots → data_size (take i slots) + length (get_or slots i no_slot).bytes ≤ data_size slots
data-upto slots i b =
    let ds : List (List ℕ) = data_of slots in
    let inside : i < length ds = omega (arith, length-map slots (λ (s : Slot). s.bytes)) in
    let old : get_or ds i [] ≡ (get_or slots i no_slot).bytes = get_or-map (λ (s : Slot). s.bytes) slots i no_slot in
    let before : length (concat ds) ≡ length (concat (take i ds)) + (length (get_or ds i []) + length (concat (drop (suc i) ds))) = ap length (concat-split ds i inside) ∙ simp length-append in
    omega (arith, ap length old, ap (λ (x : List (List ℕ)). length (concat x)) (take-data i slots))

-- ---- the heap in well formed memory

module _ (l : Lent) (w : well_formed l ≡ true) where
  pub formed : WellFormed l
  formed = formed-tested l w

  pub knows : Known (slot_count l) (pool_size l) (view l) l
  knows = known (slot_count l) (pool_size l) (view l) l formed.sound formed.lies

  pub used-is : start_of l.end l.header.slots ≡ data_size (view l).slots
  used-is =
      ap (λ (n : ℕ). start_of l.end n) knows.slot_count ∙ ap (λ (x : Lent). start_of x.end (length (view l).slots)) formed.lies
      ∙ from_at (slot_count l) (pool_size l) (view l) (length (view l).slots) (omega arith)
      ∙ ap data_size (take_all (length (view l).slots) (view l).slots (omega arith))

  -- slot i
  module _ (i : ℕ) where
    pub generation-is : get_or l.generation i 0 ≡ (slot_at (view l) i).generation
    generation-is = ap (λ (x : Lent). get_or x.generation i 0) formed.lies ∙ generation-at (slot_count l) (pool_size l) (view l) i

    pub kind-is : get_or l.kind i 0 ≡ (slot_at (view l) i).kind
    kind-is = ap (λ (x : Lent). get_or x.kind i 0) formed.lies ∙ kind_at (slot_count l) (pool_size l) (view l) i

    pub type-is : get_or l.type i 0 ≡ (slot_at (view l) i).type
    type-is = ap (λ (x : Lent). get_or x.type i 0) formed.lies ∙ type-at (slot_count l) (pool_size l) (view l) i

    pub start_is : get_or l.start i 0 ≡ (slot_at (view l) i).start
    start_is = ap (λ (x : Lent). get_or x.start i 0) formed.lies ∙ start-at (slot_count l) (pool_size l) (view l) i

    pub writes-is : get_or l.writes i 0 ≡ (slot_at (view l) i).writes
    writes-is = ap (λ (x : Lent). get_or x.writes i 0) formed.lies ∙ writes_at (slot_count l) (pool_size l) (view l) i

    pub from_is : i ≤ l.header.slots → start_of l.end i ≡ data_size (take i (view l).slots)
    from_is b = ap (λ (x : Lent). start_of x.end i) formed.lies ∙ from_at (slot_count l) (pool_size l) (view l) i (omega (arith, knows.slot_count))

    pub end_is : i < l.header.slots → get_or l.end i 0 ≡ data_size (take i (view l).slots) + length (slot_at (view l) i).bytes
    end_is b =
        ap (λ (x : Lent). get_or x.end i 0) formed.lies ∙ to_at (slot_count l) (pool_size l) (view l) i (omega (arith, knows.slot_count))
        ∙ ap (λ (n : ℕ). n + length (slot_at (view l) i).bytes) (from_at (slot_count l) (pool_size l) (view l) i (omega (arith, knows.slot_count)))

-- ---- what the code reads

module _ (h : Heap) (narrow wide pool : List ℕ) where
  abbrev S : ℕ
  S = length narrow / 6

  abbrev st : State
  st = view (lent h narrow wide pool)

  pub record Sizes : Type 0 where
    pub wide_runs : 4 * S ≤ length wide
    pub in_use : h.slots ≤ S
    pub few : S ≤ 16777216
    pub small : length pool ≤ 1073741824
    pub count : h.slots ≡ length st.slots

  pub record Reads (i : ℕ) : Type 0 where
    pub generation : get_or narrow i 0 ≡ (slot_at st i).generation
    pub kind : get_or narrow (S + i) 0 ≡ (slot_at st i).kind
    pub type : get_or narrow (2 * S + i) 0 ≡ (slot_at st i).type
    pub start : get_or wide i 0 ≡ (slot_at st i).start
    pub writes : get_or wide (2 * S + i) 0 ≡ (slot_at st i).writes
    -- where its data lies, and where all data ends
    pub from : start_of (run S S wide) i ≡ data_size (take i st.slots)
    pub end : get_or wide (S + i) 0 ≡ data_size (take i st.slots) + length (slot_at st i).bytes
    pub used : start_of (run S S wide) h.slots ≡ data_size st.slots
    pub within : data_size (take i st.slots) + length (slot_at st i).bytes ≤ data_size st.slots
    pub fit : data_size st.slots ≤ length pool

  module _ (w : well_formed (lent h narrow wide pool) ≡ true) where
    pub sizes : Sizes
    sizes =
        let l : Lent = lent h narrow wide pool in
        let k = knows l w in
        record {
          wide_runs = wide_room h narrow wide pool (formed l w);
          in_use = omega (arith, k.slot_count, k.slots-fit);
          few = (formed l w).sound.slot-range.1;
          small = (formed l w).sound.pool-range;
          count = k.slot_count;
        }

    pub reads : (i : ℕ) → i < h.slots → Reads i
    reads i b =
        let l : Lent = lent h narrow wide pool in
        let k = knows l w in
        let inside : i < S = omega (arith, sizes.in_use) in
        let here : i < length st.slots = omega (arith, sizes.count) in
        record {
          generation = sym (first-get S narrow i inside) ∙ generation-is l w i;
          kind = sym (run-get S S narrow i inside) ∙ kind-is l w i;
          type = sym (run-get S (2 * S) narrow i inside) ∙ type-is l w i;
          start = sym (first-get S wide i inside) ∙ start_is l w i;
          writes = sym (run-get S (2 * S) wide i inside) ∙ writes-is l w i;
          from = from_is l w i (omega arith);
          end = sym (run-get S S wide i inside) ∙ end_is l w i b;
          used = used-is l w;
          within = data-upto st.slots i here;
          fit = k.data-fit;
        }
