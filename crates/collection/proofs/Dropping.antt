-- Slots dropped one after the other: the heap stays sound, and what each slot becomes. Assumes nothing.
use mathlib.Core.Path.{◌≡◌, refl, sym, ap, ◌∙◌, subst}
use mathlib.Core.Bool.{Bool, true, false, ◌&&◌}
use mathlib.Core.List.{List, [], ◌∷◌, ◌++◌}
use Prim.Native.Nat.{ℕ, zero, suc, ◌+◌, ◌≤◌, ◌<◌}
use native.Mathlib.Omega.{arith}
use native.Mathlib.Decide.{dec_lt, ℕ_discrete}
use lib.ListN.{length, get_or, take, set, length-set, get_or-eq_default}
use lib.Seq.{take-suc, take_all, length-take-le}
use lib.Dec.{eqb}
use Rattle.std.specs.Prelude.{if◌then◌else◌}
use Rattle.word.proofs.Bools.{and_both}
use Rattle.heap.specs.State.{Slot, State, no_slot, slot_at, live}
use Rattle.heap.specs.Calls.{changed, released, take_slot}
use Rattle.heap.proofs.Sound.{Sound}
use Rattle.heap.proofs.Keeping.{sound-change, at_same, at_other, take-sound}
use Rattle.heap.proofs.Recycled.{freed-sound}
use Rattle.heap.proofs.Counting.{times-append}
use Rattle.collection.specs.Swept.{goes, dropped, drop_slot, drop_slots, all_dropped, drop_unmarked}

-- ---- the heap once the first n slots are looked at

abbrev pub after : (marks : List ℕ) → State → ℕ → State
after marks h n = drop_slots h (dropped marks 0 (take n h.slots))

pub drop-append : (h : State) (xs ys : List ℕ) → drop_slots h (xs ++ ys) ≡ drop_slots (drop_slots h xs) ys
unfolding drop_slots
drop-append h [] ys = refl
drop-append h (x ∷ xs) ys = drop-append (drop_slot h x) xs ys

if-append : (b : Bool) (i : ℕ) (r s : List ℕ) → (if b then (i ∷ (r ++ s)) else (r ++ s)) ≡ (if b then (i ∷ r) else r) ++ s
if-append true i r s = refl
if-append false i r s = refl

dropped-append : (marks : List ℕ) (i : ℕ) (xs ys : List Slot) → dropped marks i (xs ++ ys) ≡ dropped marks i xs ++ dropped marks (i + length xs) ys
unfolding dropped
dropped-append marks i [] ys = ap (λ (k : ℕ). dropped marks k ys) (omega arith)
dropped-append marks i (x ∷ xs) ys =
    let e : suc i + length xs ≡ i + suc (length xs) = omega arith in
    let r : dropped marks (suc i) (xs ++ ys) ≡ dropped marks (suc i) xs ++ dropped marks (i + suc (length xs)) ys = dropped-append marks (suc i) xs ys ∙ ap (λ (k : ℕ). dropped marks (suc i) xs ++ dropped marks k ys) e in
    ap (λ (l : List ℕ). if goes marks i x then (i ∷ l) else l) r
    ∙ if-append (goes marks i x) i (dropped marks (suc i) xs) (dropped marks (i + suc (length xs)) ys)

-- where none goes
pub dropped-none : (marks : List ℕ) (i : ℕ) (ss : List Slot) → ((k : ℕ) → k < length ss → goes marks (i + k) (get_or ss k no_slot) ≡ false) → dropped marks i ss ≡ []
unfolding dropped
dropped-none marks i [] e = refl
dropped-none marks i (s ∷ ss) e =
    let here : goes marks i s ≡ false = subst (λ (x : ℕ). goes marks x s ≡ false) (let z : i + 0 ≡ i = omega arith in z) (e 0 (omega arith)) in
    let rest : dropped marks (suc i) ss ≡ [] = dropped-none marks (suc i) ss (λ k less. subst (λ (x : ℕ). goes marks x (get_or ss k no_slot) ≡ false) (let z : i + suc k ≡ suc i + k = omega arith in z) (e (suc k) (omega arith))) in
    (λ j. if here j then (i ∷ rest j) else rest j)

drop-one : (b : Bool) (h : State) (n : ℕ) → drop_slots h (if b then (n ∷ []) else []) ≡ (if b then drop_slot h n else h)
unfolding drop_slots
drop-one true h n = refl
drop-one false h n = refl

-- one slot more looked at
pub dropped-next : (marks : List ℕ) (h : State) (n : ℕ) → n < length h.slots
    → dropped marks 0 (take (suc n) h.slots) ≡ dropped marks 0 (take n h.slots) ++ (if goes marks n (slot_at h n) then (n ∷ []) else [])
unfolding dropped
dropped-next marks h n less =
    let at : 0 + length (take n h.slots) ≡ n = omega (arith, length-take-le n h.slots (omega arith)) in
    ap (dropped marks 0) (take-suc h.slots n no_slot less)
    ∙ dropped-append marks 0 (take n h.slots) (slot_at h n ∷ [])
    ∙ ap (λ (k : ℕ). dropped marks 0 (take n h.slots) ++ dropped marks k (slot_at h n ∷ [])) at

pub after_next : (marks : List ℕ) (h : State) (n : ℕ) → n < length h.slots
    → after marks h (suc n) ≡ (if goes marks n (slot_at h n) then drop_slot (after marks h n) n else after marks h n)
unfolding dropped
after_next marks h n less =
    let s : Slot = slot_at h n in
    ap (drop_slots h) (dropped-next marks h n less)
    ∙ drop-append h (dropped marks 0 (take n h.slots)) (dropped marks n (s ∷ []))
    ∙ drop-one (goes marks n s) (after marks h n) n

pub after-all : (marks : List ℕ) (h : State) → after marks h (length h.slots) ≡ all_dropped h marks
after-all marks h = ap (λ (l : List Slot). drop_slots h (dropped marks 0 l)) (take_all (length h.slots) h.slots (omega arith))

-- what holds at first, and of the heap after each slot that stays and after each that goes, holds at the end
pub after-ind : (marks : List ℕ) (h : State) (Q : ℕ → State → Type 0) → Q 0 h
    → ((n : ℕ) → n < length h.slots → Q n (after marks h n) → goes marks n (slot_at h n) ≡ false → Q (suc n) (after marks h n))
    → ((n : ℕ) → n < length h.slots → Q n (after marks h n) → goes marks n (slot_at h n) ≡ true → Q (suc n) (drop_slot (after marks h n) n))
    → (n : ℕ) → n ≤ length h.slots → Q n (after marks h n)
unfolding drop_slots dropped
after-ind marks h Q first stays gone zero le = first
after-ind marks h Q first stays gone (suc n) le =
    let q : Q n (after marks h n) = after-ind marks h Q first stays gone n (omega arith) in
    let one : (b : Bool) → goes marks n (slot_at h n) ≡ b → Q (suc n) (if b then drop_slot (after marks h n) n else after marks h n) =
    λ b. elim b as (λ (k : Bool). goes marks n (slot_at h n) ≡ k → Q (suc n) (if k then drop_slot (after marks h n) n else after marks h n)) [ true ↦ λ e. gone n le q e | false ↦ λ e. stays n le q e ] in
    subst (Q (suc n)) (sym (after_next marks h n le)) (one (goes marks n (slot_at h n)) refl)

-- ---- what a slot becomes

-- a dropped slot is released, all others stay as they are
abbrev pub swept_slot : (marks : List ℕ) (i : ℕ) → Slot → Slot
swept_slot marks i s = if goes marks i s then released s else s

-- what no drop changes, and the slots once n are looked at
pub record Dropping (marks : List ℕ) (h : State) (n : ℕ) (st : State) : Type 0 where
  pub tag : st.tag ≡ h.tag
  pub reclaim : st.reclaim_at ≡ h.reclaim_at
  pub count : length st.slots ≡ length h.slots
  pub quarantine : st.quarantine ≡ h.quarantine
  pub sealed : st.sealed ≡ h.sealed
  pub earlier : (j : ℕ) → j < n → slot_at st j ≡ swept_slot marks j (slot_at h j)
  pub later : (j : ℕ) → n ≤ j → slot_at st j ≡ slot_at h j

pub dropping : (marks : List ℕ) (h : State) (n : ℕ) → n ≤ length h.slots → Dropping marks h n (after marks h n)
dropping marks h =
    after-ind marks h (Dropping marks h)
    (record { tag = refl; reclaim = refl; count = refl; quarantine = refl; sealed = refl; earlier = λ j less. absurd (omega arith); later = λ j le. refl })
    (λ n less d e. record {
      tag = d.tag;
      reclaim = d.reclaim;
      count = d.count;
      quarantine = d.quarantine;
      sealed = d.sealed;
      earlier = λ j le. elim (ℕ_discrete j n) [
        | yes q ↦ d.later j (omega arith) ∙ ap (λ (b : Bool). if b then released (slot_at h j) else slot_at h j) (sym (ap (λ (x : ℕ). goes marks x (slot_at h x)) q ∙ e))
        | no q ↦ d.earlier j (omega arith)
      ];
      later = λ j le. d.later j (omega arith);
    })
    (λ n less d e. let st : State = after marks h n in let new : Slot = released (slot_at st n) in record {
      tag = d.tag;
      reclaim = d.reclaim;
      count = length-set st.slots n new ∙ d.count;
      quarantine = d.quarantine;
      sealed = d.sealed;
      earlier = λ j le. elim (ℕ_discrete j n) [
        | yes q ↦
            ap (slot_at (drop_slot st n)) q
            ∙ at_same (changed st n) n new (omega (arith, d.count))
            ∙ ap released (d.later n (omega arith))
            ∙ ap (λ (b : Bool). if b then released (slot_at h n) else slot_at h n) (sym e)
            ∙ ap (λ (x : ℕ). swept_slot marks x (slot_at h x)) (sym q)
        | no q ↦ at_other (changed st n) n j new q ∙ d.earlier j (omega arith)
      ];
      later = λ j le. at_other (changed st n) n j new (λ q. omega arith) ∙ d.later j (omega arith);
    })

pub goes-live : (marks : List ℕ) (i : ℕ) (s : Slot) → goes marks i s ≡ true → live s ≡ true
goes-live marks i s e = (and_both (live s) (eqb (get_or marks i 0) 0) e).0

-- all slots looked at
pub all-dropped : (marks : List ℕ) (h : State) → Dropping marks h (length h.slots) (all_dropped h marks)
all-dropped marks h = subst (Dropping marks h (length h.slots)) (after-all marks h) (dropping marks h (length h.slots) (omega arith))

-- any slot, and where there is none
pub dropped-slot : (marks : List ℕ) (h : State) (j : ℕ) → slot_at (all_dropped h marks) j ≡ swept_slot marks j (slot_at h j)
dropped-slot marks h j =
    elim (dec_lt j (length h.slots)) [
      | yes less ↦ (all-dropped marks h).earlier j less
      | no more ↦
          let p : slot_at h j ≡ no_slot = get_or-eq_default h.slots no_slot (omega arith) in
          (all-dropped marks h).later j (omega arith) ∙ ap (λ (b : Bool). if (b && eqb (get_or marks j 0) 0) then released (slot_at h j) else slot_at h j) (sym (ap live p))
    ]

-- ---- sound

-- as if it went into quarantine and left it again
drop-sound : (S P : ℕ) (st : State) (i : ℕ) → Sound S P st → live (slot_at st i) ≡ true → Sound S P (drop_slot st i)
drop-sound S P st i ok alive = freed-sound S P (take_slot st i).heap st.quarantine (i ∷ []) (take-sound S P st i ok alive) (λ j. sym (times-append j st.quarantine (i ∷ [])))

pub after-sound : (S P : ℕ) (marks : List ℕ) (h : State) → Sound S P h → (n : ℕ) → n ≤ length h.slots → Sound S P (after marks h n)
after-sound S P marks h ok =
    after-ind marks h (λ n. Sound S P) ok (λ n less q e. q)
    (λ n less q e. drop-sound S P (after marks h n) n q (ap live ((dropping marks h n (omega arith)).later n (omega arith)) ∙ goes-live marks n (slot_at h n) e))

pub all_sound : (S P : ℕ) (marks : List ℕ) (h : State) → Sound S P h → Sound S P (all_dropped h marks)
all_sound S P marks h ok = subst (Sound S P) (after-all marks h) (after-sound S P marks h ok (length h.slots) (omega arith))

pub unmarked-sound : (S P : ℕ) (marks : List ℕ) (h : State) → Sound S P h → Sound S P (drop_unmarked h marks)
unfolding drop_unmarked
unmarked-sound S P marks h ok =
    let s : Sound S P (all_dropped h marks) = all_sound S P marks h ok in
    sound-change S P (all_dropped h marks) (drop_unmarked h marks) s refl refl refl (omega arith) s.slots-fit s.data-fit s.partition s.young s.spent s.each-slot
