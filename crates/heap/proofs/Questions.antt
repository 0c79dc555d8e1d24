-- The questions to a view by their ways out. Assumes nothing.
use Rattle.std.proofs.Common.{◌≡◌, ℕ, ◌+◌, ◌-◌, ◌/◌, ◌<◌, ◌≤◌, Bool, true, false, List, ltb, length, get_or, take, drop, sym, refl, ap, ◌∙◌, subst, arith, le-ltb, lt-ltb, le-leb}
use native.Mathlib.Decide.{dec_lt, ℕ_discrete}
use lib.ListN.{get_or-eq_default, length-map, get_or-map}
use borrow.Author.Tests.{lt-leb}
use Rattle.word.proofs.Bools.{positive}
use Rattle.refusal.specs.Told.{refused_by, told, answered}
use Rattle.refusal.specs.declared.Answer.{Answer}
use Rattle.refusal.specs.declared.Refusal.{Refusal}
use Rattle.refusal.specs.declared.Refusal.TheVariants.{NothingThere}
use Rattle.std.specs.Prelude.{Result, Ok, Err, Option, Some, None}
use Rattle.handle.specs.Handle.{index_of, resolve_by}
use Rattle.handle.specs.Inner.Columns.{live_in}
use Rattle.handle.proofs.ResolveLaws.{resolve_same, live-beyond, live-not, live-there}
use Rattle.word.specs.Run.{run, start_of}
use Rattle.word.proofs.RunLaws.{run-get}
use Rattle.heap.specs.Packing.{data_at}
use Rattle.heap.specs.State.{Slot, State, no_slot, slot_at, live, data_of, data_size}
use Rattle.heap.specs.Lent.{Lent, lent, view, header_of, slot_count, pool_size}
use Rattle.heap.specs.WellFormed.{well_formed}
use Rattle.heap.specs.Calls.{Place, Kind, Stamp, place_at, kind_at, stamp_at, resolve}
use Rattle.heap.specs.declared.Heap.{Heap}
use Rattle.heap.specs.Inner.Seen.{seen_at}
use Rattle.heap.proofs.Packing.{data-at}
use Rattle.heap.proofs.Keeping.{live_inside}
use Rattle.heap.proofs.Columns.{knows, generation-is, kind-is, sizes}

-- ---- a live slot or none

module _ (h : State) (i : ℕ) where
  pub none-past : length h.slots ≤ i → live (slot_at h i) ≡ false
  none-past b = ap live (get_or-eq_default h.slots no_slot b)

  pub lifeless : {k : ℕ} → k ≡ (slot_at h i).kind → k ≡ 0 → live (slot_at h i) ≡ false
  lifeless e z = ap (ltb 0) (sym e ∙ z)

  pub alive : {k : ℕ} → k ≡ (slot_at h i).kind → (k ≡ 0 → ⊥) → live (slot_at h i) ≡ true
  alive e n = lt-ltb 0 (slot_at h i).kind (positive (slot_at h i).kind (λ z. n (e ∙ z)))

  pub no_kind : live (slot_at h i) ≡ false → refused_by 9 ≡ answered (λ (x : Kind). x.kind) (λ (x : Kind). x.type) (kind_at h i)
  unfolding kind_at
  no_kind e = simp e

  pub its-kind : {k t : ℕ} → k ≡ (slot_at h i).kind → t ≡ (slot_at h i).type → (k ≡ 0 → ⊥) → told (Ok (k, t)) ≡ answered (λ (x : Kind). x.kind) (λ (x : Kind). x.type) (kind_at h i)
  unfolding kind_at
  its-kind ek et n = (λ j. told (Ok ((ek j), (et j)))) ∙ simp (alive ek n)

  pub no-stamp : live (slot_at h i) ≡ false → refused_by 9 ≡ answered (λ (x : Stamp). x.generation) (λ (x : Stamp). x.writes) (stamp_at h i)
  unfolding stamp_at
  no-stamp e = simp e

  pub its-stamp : {g k w : ℕ} → g ≡ (slot_at h i).generation → k ≡ (slot_at h i).kind → w ≡ (slot_at h i).writes → (k ≡ 0 → ⊥)
      → told (Ok (g, w)) ≡ answered (λ (x : Stamp). x.generation) (λ (x : Stamp). x.writes) (stamp_at h i)
  unfolding stamp_at
  its-stamp eg ek ew n = (λ j. told (Ok ((eg j), (ew j)))) ∙ simp (alive ek n)

  -- ---- the visible data

  pub seen_none : live (slot_at h i) ≡ false → Err NothingThere ≡ seen_at h i
  unfolding seen_at
  seen_none e = simp e

  module _ {first size : ℕ} where
    pub seen-hidden : size < first → live (slot_at h i) ≡ true → first ≡ (slot_at h i).start → size ≡ length (slot_at h i).bytes → Ok None ≡ seen_at h i
    unfolding seen_at
    seen-hidden b a ef es = simp (a, lt-ltb (length (slot_at h i).bytes) (slot_at h i).start (omega arith))

    pub seen-shown : {from : ℕ} → first ≤ size → live (slot_at h i) ≡ true → first ≡ (slot_at h i).start → size ≡ length (slot_at h i).bytes → from ≡ data_size (take i h.slots)
        → Ok (Some (from + first, size - first)) ≡ seen_at h i
    unfolding seen_at
    seen-shown b a ef es e =
        (λ j. Ok (Some (e j + ef j, es j - ef j)))
        ∙ simp (a, le-ltb (length (slot_at h i).bytes) (slot_at h i).start (omega arith))

-- what is told of what is seen
abbrev pub seen_told : Result (Option (ℕ × ℕ)) Refusal → Answer
seen_told (Err why) = told (Err why)
seen_told (Ok None) = refused_by 9
seen_told (Ok (Some p)) = told (Ok p)

pub place-seen : (h : State) (i : ℕ) → seen_told (seen_at h i) ≡ answered (λ (p : Place). p.from) (λ (p : Place). p.size) (place_at h i)
unfolding seen_at place_at
place-seen h i = elim (dec_lt (length (slot_at h i).bytes) (slot_at h i).start) [ yes b ↦ hidden b (live (slot_at h i)) refl | no b ↦ shown (omega arith) (live (slot_at h i)) refl ]
  where
    s : Slot
    s = slot_at h i

    place : Answer
    place = answered (λ (p : Place). p.from) (λ (p : Place). p.size) (place_at h i)

    hidden : length s.bytes < s.start → (b : Bool) → live s ≡ b → seen_told (seen_at h i) ≡ place
    hidden b true e = simp (e, lt-ltb _ _ b, lt-leb _ _ b)
    hidden b false e = simp e

    shown : s.start ≤ length s.bytes → (b : Bool) → live s ≡ b → seen_told (seen_at h i) ≡ place
    shown b true e = simp (e, le-ltb _ _ b, le-leb _ _ b)
    shown b false e = simp e

pub place-told : {v u : Result (Option (ℕ × ℕ)) Refusal} (h : State) (i : ℕ) → v ≡ u → v ≡ seen_at h i → seen_told u ≡ answered (λ (p : Place). p.from) (λ (p : Place). p.size) (place_at h i)
place-told h i e s = sym (ap seen_told e) ∙ ap seen_told s ∙ place-seen h i

-- ---- resolve

its-tag : (h : State) (k : Heap) → k ≡ header_of h → k.tag ≡ h.tag
unfolding header_of
its-tag h k e = ap (λ (x : Heap). x.tag) e

module _ (l : Lent) (w : well_formed l ≡ true) where
  pub none-beyond : (i : ℕ) → l.header.slots ≤ i → live (slot_at (view l) i) ≡ false
  none-beyond i b = none-past (view l) i (omega (arith, (knows l w).slot_count))

  pub resolves : (x : ℕ) → resolve_by l.header.tag l.header.slots (live_in l.header.slots l.kind) (λ i. get_or l.generation i 0) x ≡ resolve (view l) x
  unfolding resolve
  resolves x =
      resolve_same l.header.tag l.header.slots (length (view l).slots) (live_in l.header.slots l.kind) (λ i. live (slot_at (view l) i)) (λ i. get_or l.generation i 0) (λ i. (slot_at (view l) i).generation) x
      (knows l w).slot_count there (generation-is l w (index_of x))
      ∙ ap (λ (t : ℕ). resolve_by t (length (view l).slots) (λ i. live (slot_at (view l) i)) (λ i. (slot_at (view l) i).generation) x) (its-tag (view l) l.header (knows l w).header)
    where
      there : live_in l.header.slots l.kind (index_of x) ≡ live (slot_at (view l) (index_of x))
      there =
          let i : ℕ = index_of x in
          elim (dec_lt i l.header.slots) [
            | no b ↦ live-beyond l.header.slots l.kind i (omega arith) ∙ sym (none-beyond i (omega arith))
            | yes b ↦ elim (ℕ_discrete (get_or l.kind i 0) 0) [
              | yes z ↦ live-not l.header.slots l.kind i z ∙ sym (lifeless (view l) i (kind-is l w i) z)
              | no n ↦ live-there l.header.slots l.kind i b n ∙ sym (alive (view l) i (kind-is l w i) n)
            ]
          ]

-- ---- the data of a live slot

module _ (l : Lent) (w : well_formed l ≡ true) (i : ℕ) (a : live (slot_at (view l) i) ≡ true) where
  pub within : i < l.header.slots
  within = omega (arith, (knows l w).slot_count, live_inside (view l) i a)

  -- it is what lies in the pool
  pub bytes-lie : take (get_or l.end i 0 - start_of l.end i) (drop (start_of l.end i) l.pool) ≡ (slot_at (view l) i).bytes
  unfolding data_at
  bytes-lie =
      let st : State = view l in
      let kn = knows l w in
      let ds : List (List ℕ) = data_of st.slots in
      (λ q. take (get_or (kn.end q) i 0 - start_of (kn.end q) i) (drop (start_of (kn.end q) i) (kn.pool q)))
      ∙ data-at (slot_count l) (pool_size l) ds i (omega (arith, live_inside st i a, length-map st.slots (λ (s : Slot). s.bytes)))
      ∙ get_or-map (λ (s : Slot). s.bytes) st.slots i no_slot

pub bytes-are : (h : Heap) (narrow wide pool : List ℕ) (w : well_formed (lent h narrow wide pool) ≡ true) (i : ℕ) → live (slot_at (view (lent h narrow wide pool)) i) ≡ true
    → take (get_or wide (length narrow / 6 + i) 0 - start_of (run (length narrow / 6) (length narrow / 6) wide) i) (drop (start_of (run (length narrow / 6) (length narrow / 6) wide) i) pool) ≡ (slot_at (view (lent h narrow wide pool)) i).bytes
bytes-are h narrow wide pool w i a =
    let l : Lent = lent h narrow wide pool in
    let S : ℕ = length narrow / 6 in
    subst (λ (n : ℕ). take (n - start_of l.end i) (drop (start_of l.end i) pool) ≡ (slot_at (view l) i).bytes)
    (run-get S S wide i (omega (arith, within l w i a, (sizes h narrow wide pool w).in_use))) (bytes-lie l w i a)
