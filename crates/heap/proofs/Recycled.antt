-- A heap stays sound when slots leave its quarantine, and when it is recycled. Assumes nothing.
use Rattle.std.proofs.Common.{◌≡◌, ℕ, suc, ◌+◌, ◌<◌, ◌≤◌, Bool, true, false, not, eqb, List, [], ◌∷◌, ◌++◌, length, sym, refl, ap, ◌∙◌, arith, eq-eqb, ne_eqb, eqb-true}
use native.Mathlib.Decide.{dec_lt, ℕ_discrete}
use borrow.Author.Tests.{not-true}
use Rattle.std.specs.Prelude.{if◌then◌else◌, filter}
use Rattle.heap.specs.State.{State, slot_at, worn, last_generation, bit, times, with_quarantine}
use Rattle.heap.specs.Calls.{freed, recycle}
use Rattle.word.specs.Lists.{has}
use Rattle.heap.proofs.Sound.{Sound}
use Rattle.heap.proofs.Counting.{all_slots, listed-inside, times-append}
use Rattle.heap.proofs.Keeping.{sound-change}

pub filter-total : (p : ℕ → Bool) (xs : List ℕ) → length (filter p xs) + length (filter (λ i. not (p i)) xs) ≡ length xs
filter-total p [] = omega arith
filter-total p (x ∷ xs) = one (p x) (filter-total p xs)
  where
    one : (b : Bool) → length (filter p xs) + length (filter (λ i. not (p i)) xs) ≡ length xs → length (if◌then◌else◌ b (x ∷ filter p xs) (filter p xs)) + length (if◌then◌else◌ (not b) (x ∷ filter (λ i. not (p i)) xs) (filter (λ i. not (p i)) xs)) ≡ suc (length xs)
    one true r = omega arith
    one false r = omega arith

pub times-filter : (p : ℕ → Bool) (i : ℕ) (xs : List ℕ) → times i (filter p xs) + times i (filter (λ j. not (p j)) xs) ≡ times i xs
unfolding times
times-filter p i [] = omega arith
times-filter p i (x ∷ xs) = one (p x) (times-filter p i xs)
  where
    one : (b : Bool) → times i (filter p xs) + times i (filter (λ j. not (p j)) xs) ≡ times i xs → times i (if◌then◌else◌ b (x ∷ filter p xs) (filter p xs)) + times i (if◌then◌else◌ (not b) (x ∷ filter (λ j. not (p j)) xs) (filter (λ j. not (p j)) xs)) ≡ bit (eqb x i) + times i xs
    one true r = omega arith
    one false r = omega arith

-- what is left passes the test
filter-passed : (p : ℕ → Bool) (i : ℕ) (xs : List ℕ) → 1 ≤ times i (filter p xs) → p i ≡ true
unfolding times
filter-passed p i [] m = absurd (omega arith)
filter-passed p i (x ∷ xs) m = one (p x) refl (filter-passed p i xs) m
  where
    one : (b : Bool) → p x ≡ b → (1 ≤ times i (filter p xs) → p i ≡ true) → 1 ≤ times i (if◌then◌else◌ b (x ∷ filter p xs) (filter p xs)) → p i ≡ true
    one false e rest k = rest k
    one true e rest k = elim (ℕ_discrete x i) [
      | yes q ↦ ap p (sym q) ∙ e
      | no q ↦ rest (omega (arith, ap bit (ne_eqb x i q)))
    ]

-- some of the quarantined slots leave it
module _ (S P : ℕ) (st : State) (kept gone : List ℕ) (ok : Sound S P st) (all : (i : ℕ) → times i kept + times i gone ≡ times i st.quarantine) where
  abbrev young-ones : List ℕ
  young-ones = filter (λ i. not (worn (slot_at st i))) gone

  abbrev worn-ones : List ℕ
  worn-ones = filter (λ i. worn (slot_at st i)) gone

  both : (i : ℕ) → times i worn-ones + times i young-ones ≡ times i gone
  both i = times-filter (λ i. worn (slot_at st i)) i gone

  young-after : (i : ℕ) → 1 ≤ times i (st.free ++ young-ones) → (slot_at st i).generation < last_generation
  young-after i m = elim (dec_lt 0 (times i st.free)) [
    | yes f ↦ ok.young i f
    | no f ↦
        let here : 1 ≤ times i young-ones = omega (arith, times-append i st.free young-ones) in
        let inside : i < length st.slots = listed-inside S P st ok i (omega (arith, both i, all i)) in
        let other : (slot_at st i).generation ≡ last_generation → ⊥ = λ e.
        let t : worn (slot_at st i) ≡ true = eq-eqb (slot_at st i).generation last_generation e in
        let u : worn (slot_at st i) ≡ false = not-true (worn (slot_at st i)) (filter-passed (λ i. not (worn (slot_at st i))) i gone here) in
        let z : ◌≡◌ {A = ℕ} 0 1 = cc in omega arith in
        omega (arith, (ok.each-slot i inside).most)
  ]

  spent-after : (i : ℕ) → 1 ≤ times i (st.retired ++ worn-ones) → (slot_at st i).generation ≡ last_generation
  spent-after i m = elim (dec_lt 0 (times i st.retired)) [
    | yes r ↦ ok.spent i r
    | no r ↦ eqb-true (slot_at st i).generation last_generation (filter-passed (λ i. worn (slot_at st i)) i gone (omega (arith, times-append i st.retired worn-ones)))
  ]

  pub freed-sound : Sound S P (freed (with_quarantine st kept) gone)
  freed-sound =
      sound-change S P st (freed (with_quarantine st kept) gone) ok refl refl refl (omega arith) ok.slots-fit ok.data-fit
      (λ i. omega (arith, ok.partition i, times-append i st.free young-ones, times-append i st.retired worn-ones, both i, all i))
      young-after spent-after ok.each-slot

pub recycle-sound : (S P : ℕ) (st : State) (pins : List ℕ) → Sound S P st → Sound S P (recycle st pins)
unfolding recycle
recycle-sound S P st pins fine =
    let Q : List ℕ = st.quarantine in
    let keep : List ℕ = filter (λ i. has pins i) Q in
    let go : List ℕ = filter (λ i. not (has pins i)) Q in
    let total : length keep + length go ≡ length Q = filter-total (λ i. has pins i) Q in
    let few : length Q ≤ length st.slots = omega (arith, all_slots S P st fine) in
    let most : length keep ≤ 16777216 = omega (arith, fine.slots-fit, fine.slot-range) in
    let after : Sound S P (freed (with_quarantine st keep) go) = freed-sound S P st keep go fine (λ i. times-filter (λ i. has pins i) i Q) in
    record {
      slot-range = after.slot-range;
      pool-range = after.pool-range;
      slots-fit = after.slots-fit;
      data-fit = after.data-fit;
      partition = after.partition;
      young = after.young;
      spent = after.spent;
      each-slot = after.each-slot;
      seals = after.seals;
      reclaim-range = (omega arith, omega arith);
      reclaim_even = omega arith;
    }
