-- The tests of `WellFormed` pass exactly if what they test holds. Assumes nothing.
use Rattle.std.proofs.Common.{◌≡◌, ℕ, ◌+◌, ◌%◌, ◌<◌, ◌≤◌, Bool, true, not, ◌&&◌, ◌||◌, eqb, ltb, leb, List, [], ◌∷◌, ◌++◌, length, get_or, sym, refl, ap, ◌∙◌, ⊎_elim, arith, ltb-true, le-ltb, lt-ltb, eq-eqb, ne_eqb, eqb-true, le-leb, leb-true}
use Rattle.word.specs.Lists.{all, all_below}
use Rattle.word.specs.Same.{same_list}
use Rattle.word.proofs.Bools.{and_both, both-and, or_cases, or_left, or_right}
use Rattle.word.proofs.ListLaws.{all-at, at_all, below_at, at-below, same-tested, same_test}
use Rattle.heap.specs.State.{Slot, State, no_slot, slot_at, data_of, live, last_generation, worn, bit, times}
use Rattle.heap.specs.Lent.{Lent, columns, stored, view, slot_count, pool_size}
use Rattle.heap.specs.WellFormed.{sound_slot, places, partitioned, retired_rightly, sound_seals, sound_reclaim, sound, fits, well_formed}
use Rattle.heap.specs.Same.{same_header, same_lent}
use Rattle.heap.specs.declared.Heap.{Heap}
use Rattle.heap.proofs.Sound.{SlotSound, Sound, WellFormed, live_bit}
use Rattle.heap.proofs.Counting.{times-append, times-member}
use Rattle.heap.proofs.Storing.{well-stored}
use Rattle.std.proofs.lemmas.List.{nil_from_length}
use Rattle.std.specs.List.{concat}
use native.Mathlib.Decide.{dec_lt, ℕ_discrete}
use lib.ListN.{get_or-eq_default}

-- ---- a slot

pub slot-tested : (s : Slot) → sound_slot s ≡ true → SlotSound s
unfolding sound_slot
slot-tested s h =
    let a = and_both (leb s.kind 3 && leb 1 s.generation && leb s.generation last_generation && (eqb s.kind 1 || eqb s.type 0)) _ h in
    let b = and_both (leb s.kind 3 && leb 1 s.generation && leb s.generation last_generation) _ a.0 in
    let m = and_both (leb s.kind 3 && leb 1 s.generation) _ b.0 in
    let d = and_both (leb s.kind 3) _ m.0 in
    record {
      kinds = leb-true _ _ d.0;
      aged = leb-true _ _ d.1;
      most = leb-true _ _ m.1;
      untyped = λ two. ⊎_elim (λ e. absurd (omega (arith, eqb-true s.kind 1 e))) (λ e. eqb-true _ _ e) (or_cases (eqb s.kind 1) _ b.1);
      dead = λ z. ⊎_elim (λ e. absurd (omega (arith, ltb-true 0 s.kind e))) (λ e. nothing z e (⊎_elim (λ q. absurd (omega (arith, eqb-true s.kind 1 q))) (λ q. eqb-true _ _ q) (or_cases (eqb s.kind 1) _ b.1))) (or_cases (live s) _ a.1);
    }
  where
    nothing : s.kind ≡ 0 → (eqb s.start 0 && eqb s.writes 0 && eqb (length s.bytes) 0) ≡ true → s.type ≡ 0 → s ≡ record { generation = s.generation; kind = 0; type = 0; start = 0; writes = 0; bytes = [] }
    nothing z e t =
        let a = and_both (eqb s.start 0 && eqb s.writes 0) _ e in
        let b = and_both (eqb s.start 0) _ a.0 in
        let st : s.start ≡ 0 = eqb-true _ _ b.0 in
        let w : s.writes ≡ 0 = eqb-true _ _ b.1 in
        let d : s.bytes ≡ [] = nil_from_length s.bytes (eqb-true _ _ a.1) in
        λ j. record { generation = s.generation; kind = z j; type = t j; start = st j; writes = w j; bytes = d j }

pub slot-tests : (s : Slot) → SlotSound s → sound_slot s ≡ true
unfolding sound_slot
slot-tests s k =
    simp (
      le-leb s.kind 3 k.kinds,
      le-leb 1 s.generation k.aged,
      le-leb s.generation last_generation k.most,
      typed,
      quiet,
    )
  where
    typed : (eqb s.kind 1 || eqb s.type 0) ≡ true
    typed = elim (ℕ_discrete s.kind 1) [
      | yes e ↦ or_left (eqb s.kind 1) _ (eq-eqb _ _ e)
      | no ne ↦ or_right (eqb s.kind 1) _ (eq-eqb s.type 0 (elim (dec_lt 1 s.kind) [ yes y ↦ k.untyped y | no y ↦ ap (λ (x : Slot). x.type) (k.dead (omega arith)) ]))
    ]

    quiet : (live s || eqb s.start 0 && eqb s.writes 0 && eqb (length s.bytes) 0) ≡ true
    quiet = elim (dec_lt 0 s.kind) [
      | yes y ↦ or_left (live s) _ (lt-ltb _ _ y)
      | no y ↦
          let d = k.dead (omega arith) in
          or_right (live s) _
          (both-and (eqb s.start 0 && eqb s.writes 0) _
          (both-and (eqb s.start 0) _ (eq-eqb _ _ (ap (λ (x : Slot). x.start) d)) (eq-eqb _ _ (ap (λ (x : Slot). x.writes) d)))
          (eq-eqb _ _ (ap (λ (x : Slot). length x.bytes) d)))
    ]

-- ---- the partition

times_none : (xs : List ℕ) (n i : ℕ) → all (λ j. ltb j n) xs ≡ true → n ≤ i → times i xs ≡ 0
unfolding all times
times_none [] n i h k = refl
times_none (x ∷ xs) n i h k =
    let a = and_both (ltb x n) (all (λ j. ltb j n) xs) h in
    omega (arith, times_none xs n i a.1 k, ap bit (ne_eqb x i (λ e. omega (arith, ltb-true x n a.0))))

times-three : (h : State) (i : ℕ) → times i (h.free ++ h.quarantine ++ h.retired) ≡ times i h.free + (times i h.quarantine + times i h.retired)
times-three h i = omega (arith, times-append i (h.free ++ h.quarantine) h.retired, times-append i h.free h.quarantine)

pub parts-tested : (h : State) → partitioned h ≡ true → (i : ℕ) → places h i ≡ bit (ltb i (length h.slots))
unfolding partitioned
parts-tested h t i =
    let a = and_both (all_below (λ i. eqb (places h i) 1) (length h.slots)) _ t in
    elim (dec_lt i (length h.slots)) [
      | yes y ↦ eqb-true _ _ (below_at (λ i. eqb (places h i) 1) (length h.slots) a.0 i y) ∙ sym (ap bit (lt-ltb i (length h.slots) y))
      | no y ↦
          let z : times i (h.free ++ h.quarantine ++ h.retired) ≡ 0 = times_none (h.free ++ h.quarantine ++ h.retired) (length h.slots) i a.1 (omega arith) in
          let blank : slot_at h i ≡ no_slot = get_or-eq_default h.slots no_slot (omega arith) in
          omega (arith, times-three h i, ap live_bit blank, ap bit (le-ltb i (length h.slots) (omega arith)))
    ]

-- a slot index that is in a place is one of the slots
placed-inside : (h : State) → ((i : ℕ) → places h i ≡ bit (ltb i (length h.slots))) → (i : ℕ) → 1 ≤ places h i → i < length h.slots
placed-inside h p i m = elim (dec_lt i (length h.slots)) [ yes y ↦ y | no y ↦ absurd (omega (arith, p i, ap bit (le-ltb i (length h.slots) (omega arith)))) ]

pub parts-test : (h : State) → ((i : ℕ) → places h i ≡ bit (ltb i (length h.slots))) → partitioned h ≡ true
unfolding partitioned
parts-test h p =
    both-and (all_below (λ i. eqb (places h i) 1) (length h.slots)) _
    (at-below (λ i. eqb (places h i) 1) (length h.slots) (λ i y. eq-eqb _ _ (p i ∙ ap bit (lt-ltb i (length h.slots) y))))
    (at_all (λ i. ltb i (length h.slots)) (h.free ++ h.quarantine ++ h.retired) 0 (λ k y. inside (get_or (h.free ++ h.quarantine ++ h.retired) k 0) (times-member (h.free ++ h.quarantine ++ h.retired) k y)))
  where
    inside : (i : ℕ) → 1 ≤ times i (h.free ++ h.quarantine ++ h.retired) → ltb i (length h.slots) ≡ true
    inside i m = elim (dec_lt i (length h.slots)) [
      | yes y ↦ lt-ltb _ _ y
      | no y ↦ absurd (omega (arith, p i, times-three h i, ap bit (le-ltb i (length h.slots) (omega arith))))
    ]

-- ---- free and retired slots

pub all-times : (p : ℕ → Bool) (xs : List ℕ) (i : ℕ) → all p xs ≡ true → 1 ≤ times i xs → p i ≡ true
unfolding all times
all-times p [] i t m = absurd (omega arith)
all-times p (x ∷ xs) i t m =
    let a = and_both (p x) (all p xs) t in
    elim (ℕ_discrete x i) [
      | yes e ↦ ap p (sym e) ∙ a.0
      | no ne ↦ all-times p xs i a.1 (omega (arith, ap bit (ne_eqb x i ne)))
    ]

times-all : (p : ℕ → Bool) (xs : List ℕ) → ((i : ℕ) → 1 ≤ times i xs → p i ≡ true) → all p xs ≡ true
times-all p xs h = at_all p xs 0 (λ k y. h (get_or xs k 0) (times-member xs k y))

not-worn : (s : Slot) → SlotSound s → not (worn s) ≡ true → s.generation < last_generation
not-worn s k e = elim (ℕ_discrete s.generation last_generation) [
  | yes q ↦ let w : worn s ≡ true = eq-eqb s.generation last_generation q in let z : ◌≡◌ {A = ℕ} 0 1 = cc in absurd (omega arith)
  | no q ↦ omega (arith, k.most)
]

-- ---- equal lent memory

pub lent-tested : (a b : Lent) → same_lent a b ≡ true → a ≡ b
unfolding same_lent same_header
lent-tested a b t =
    let h₁ : Heap = a.header in
    let h₂ : Heap = b.header in
    let o = and_both _ (same_list a.over b.over) t in
    let r = and_both _ (same_list a.retired b.retired) o.0 in
    let c₁ = and_both _ (same_list a.sealed b.sealed) r.0 in
    let c₂ = and_both _ (same_list a.quarantine b.quarantine) c₁.0 in
    let c₃ = and_both _ (same_list a.free b.free) c₂.0 in
    let c₄ = and_both _ (same_list a.pool b.pool) c₃.0 in
    let c₅ = and_both _ (same_list a.writes b.writes) c₄.0 in
    let c₆ = and_both _ (same_list a.end b.end) c₅.0 in
    let c₇ = and_both _ (same_list a.start b.start) c₆.0 in
    let c₈ = and_both _ (same_list a.type b.type) c₇.0 in
    let c₉ = and_both _ (same_list a.kind b.kind) c₈.0 in
    let d₀ = and_both _ (same_list a.generation b.generation) c₉.0 in
    let n = and_both _ (eqb a.count b.count) d₀.0 in
    let d₁ = and_both _ (eqb h₁.sealed h₂.sealed) n.0 in
    let e₁ = and_both _ (eqb h₁.retired h₂.retired) d₁.0 in
    let d₂ = and_both _ (eqb h₁.quarantine h₂.quarantine) e₁.0 in
    let d₃ = and_both _ (eqb h₁.free h₂.free) d₂.0 in
    let d₄ = and_both _ (eqb h₁.slots h₂.slots) d₃.0 in
    let d₅ = and_both _ (same_list h₁.log h₂.log) d₄.0 in
    let d₆ = and_both _ (eqb h₁.epoch h₂.epoch) d₅.0 in
    let d₇ = and_both _ (eqb h₁.live_bytes h₂.live_bytes) d₆.0 in
    let d₈ = and_both _ (eqb h₁.reclaim_at h₂.reclaim_at) d₇.0 in
    let d₉ = and_both (eqb h₁.tag h₂.tag) (eqb h₁.since_gc h₂.since_gc) d₈.0 in
    λ j. columns
    (record {
      tag = eqb-true h₁.tag h₂.tag d₉.0 j;
      since_gc = eqb-true h₁.since_gc h₂.since_gc d₉.1 j;
      reclaim_at = eqb-true h₁.reclaim_at h₂.reclaim_at d₈.1 j;
      live_bytes = eqb-true h₁.live_bytes h₂.live_bytes d₇.1 j;
      epoch = eqb-true h₁.epoch h₂.epoch d₆.1 j;
      log = same-tested h₁.log h₂.log d₅.1 j;
      slots = eqb-true h₁.slots h₂.slots d₄.1 j;
      free = eqb-true h₁.free h₂.free d₃.1 j;
      quarantine = eqb-true h₁.quarantine h₂.quarantine d₂.1 j;
      retired = eqb-true h₁.retired h₂.retired e₁.1 j;
      sealed = eqb-true h₁.sealed h₂.sealed d₁.1 j;
    })
    (eqb-true a.count b.count n.1 j)
    (same-tested a.generation b.generation d₀.1 j)
    (same-tested a.kind b.kind c₉.1 j)
    (same-tested a.type b.type c₈.1 j)
    (same-tested a.start b.start c₇.1 j)
    (same-tested a.end b.end c₆.1 j)
    (same-tested a.writes b.writes c₅.1 j)
    (same-tested a.pool b.pool c₄.1 j)
    (same-tested a.free b.free c₃.1 j)
    (same-tested a.quarantine b.quarantine c₂.1 j)
    (same-tested a.sealed b.sealed c₁.1 j)
    (same-tested a.retired b.retired r.1 j)
    (same-tested a.over b.over o.1 j)

same_number : (n : ℕ) → eqb n n ≡ true
same_number n = eq-eqb n n refl

pub lent-test : (a : Lent) → same_lent a a ≡ true
unfolding same_lent same_header
lent-test a = simp (same_number, same_test)

-- ---- all of it

pub sound-tested : (S P : ℕ) (h : State) → fits S P h ≡ true → sound h ≡ true → Sound S P h
unfolding fits sound sound_reclaim retired_rightly
sound-tested S P h f t =
    let f₁ = and_both (leb 1 S && leb S 16777216 && leb P 1073741824 && leb (length h.slots) S) (leb (length (concat (data_of h.slots))) P) f in
    let f₂ = and_both (leb 1 S && leb S 16777216 && leb P 1073741824) (leb (length h.slots) S) f₁.0 in
    let f₃ = and_both (leb 1 S && leb S 16777216) (leb P 1073741824) f₂.0 in
    let f₄ = and_both (leb 1 S) (leb S 16777216) f₃.0 in
    let t₁ = and_both (all sound_slot h.slots && partitioned h && retired_rightly h && sound_seals h.tag (length h.slots) 0 h.sealed) (sound_reclaim h.reclaim_at) t in
    let t₂ = and_both (all sound_slot h.slots && partitioned h && retired_rightly h) (sound_seals h.tag (length h.slots) 0 h.sealed) t₁.0 in
    let t₄ = and_both (all sound_slot h.slots && partitioned h) (retired_rightly h) t₂.0 in
    let t₃ = and_both (all sound_slot h.slots) (partitioned h) t₄.0 in
    let ages = and_both (all (λ i. not (worn (slot_at h i))) h.free) (all (λ i. worn (slot_at h i)) h.retired) t₄.1 in
    let part : (i : ℕ) → places h i ≡ bit (ltb i (length h.slots)) = parts-tested h t₃.1 in
    let each : (i : ℕ) → i < length h.slots → SlotSound (slot_at h i) = λ i k. slot-tested (slot_at h i) (all-at sound_slot h.slots no_slot t₃.0 i k) in
    let r₁ = and_both (eqb (h.reclaim_at % 2) 0 && leb 4096 h.reclaim_at) (leb h.reclaim_at 33554432) t₁.1 in
    let r₂ = and_both (eqb (h.reclaim_at % 2) 0) (leb 4096 h.reclaim_at) r₁.0 in
    record {
      slot-range = (leb-true 1 S f₄.0, leb-true S 16777216 f₄.1);
      pool-range = leb-true P 1073741824 f₃.1;
      slots-fit = leb-true (length h.slots) S f₂.1;
      data-fit = leb-true (length (concat (data_of h.slots))) P f₁.1;
      partition = part;
      young = λ i m. not-worn (slot_at h i) (each i (placed-inside h part i (omega arith))) (all-times (λ i. not (worn (slot_at h i))) h.free i ages.0 m);
      spent = λ i m. eqb-true (slot_at h i).generation last_generation (all-times (λ i. worn (slot_at h i)) h.retired i ages.1 m);
      each-slot = each;
      seals = t₂.1;
      reclaim-range = (leb-true 4096 h.reclaim_at r₂.1, leb-true h.reclaim_at 33554432 r₁.1);
      reclaim_even = eqb-true (h.reclaim_at % 2) 0 r₂.0;
    }

pub sound-test : (S P : ℕ) (h : State) → Sound S P h → (fits S P h && sound h) ≡ true
unfolding fits sound sound_reclaim retired_rightly
sound-test S P h s =
    simp (
      le-leb 1 S s.slot-range.0,
      le-leb S 16777216 s.slot-range.1,
      le-leb P 1073741824 s.pool-range,
      le-leb (length h.slots) S s.slots-fit,
      le-leb (length (concat (data_of h.slots))) P s.data-fit,
      at_all sound_slot h.slots no_slot (λ i k. slot-tests (slot_at h i) (s.each-slot i k)),
      parts-test h s.partition,
      times-all (λ i. not (worn (slot_at h i))) h.free (λ i m. ap not (ne_eqb (slot_at h i).generation last_generation (λ e. omega (arith, s.young i m)))),
      times-all (λ i. worn (slot_at h i)) h.retired (λ i m. eq-eqb (slot_at h i).generation last_generation (s.spent i m)),
      s.seals,
      le-leb 4096 h.reclaim_at s.reclaim-range.0,
      le-leb h.reclaim_at 33554432 s.reclaim-range.1,
      eq-eqb (h.reclaim_at % 2) 0 s.reclaim_even,
    )

-- well formed: exactly if it lies as a sound heap does that fits there
pub formed-tested : (l : Lent) → well_formed l ≡ true → WellFormed l
unfolding well_formed
formed-tested l t =
    let a = and_both (fits (slot_count l) (pool_size l) (view l) && sound (view l)) (same_lent l (stored (slot_count l) (pool_size l) (view l))) t in
    let b = and_both (fits (slot_count l) (pool_size l) (view l)) (sound (view l)) a.0 in
    record { lies = lent-tested l (stored (slot_count l) (pool_size l) (view l)) a.1; sound = sound-tested (slot_count l) (pool_size l) (view l) b.0 b.1 }

pub formed-test : (l : Lent) → WellFormed l → well_formed l ≡ true
unfolding well_formed
formed-test l w =
    both-and (fits (slot_count l) (pool_size l) (view l) && sound (view l)) (same_lent l (stored (slot_count l) (pool_size l) (view l)))
    (sound-test (slot_count l) (pool_size l) (view l) w.sound)
    (ap (same_lent l) (sym w.lies) ∙ lent-test l)

pub stored-formed : (S P : ℕ) (h : State) → fits S P h ≡ true → sound h ≡ true → well_formed (stored S P h) ≡ true
stored-formed S P h f t = formed-test (stored S P h) (well-stored S P h (sound-tested S P h f t))
