-- The live slots: what a handle resolves to is one, and they are counted, those of the kinds in use that are not 0. Assumes nothing.
use Rattle.std.proofs.Common.{◌≡◌, ℕ, ◌+◌, ◌-◌, ◌/◌, Bool, true, false, not, List, [], ◌∷◌, length, take, drop, sym, refl, ap, ◌∙◌, arith, eqb, ltb, eq-eqb, ne_eqb, lt-ltb, le-ltb, take-take}
use mathlib.Core.List.{map}
use lib.ListN.{length-map}
use native.Mathlib.Decide.{ℕ_discrete}
use Rattle.std.specs.Prelude.{cond}
use Rattle.std.specs.List.{filter}
use Rattle.word.specs.Run.{run}
use Rattle.word.specs.Result.{ok}
use Rattle.handle.proofs.ResolveLaws.{Resolves, resolve-ok}
use Rattle.heap.specs.State.{Slot, State, slot_at, live, bit}
use Rattle.heap.specs.Calls.{resolve, live_count}
use Rattle.heap.specs.Lent.{lent, view}
use Rattle.heap.specs.Packing.{pad}
use Rattle.heap.specs.WellFormed.{well_formed}
use Rattle.heap.specs.declared.Heap.{Heap}
use Rattle.heap.proofs.Packing.{take-pad}
use Rattle.heap.proofs.Columns.{sizes, knows}

-- a handle leads to a live slot, the one that it names
pub resolved : (h : State) (x i : ℕ) → resolve h x ≡ ok i → Resolves h.tag (length h.slots) (λ j. live (slot_at h j)) (λ j. (slot_at h j).generation) x i
unfolding resolve
resolved h x i e = resolve-ok h.tag (length h.slots) (λ j. live (slot_at h j)) (λ j. (slot_at h j).generation) x i e

pub resolved_live : (h : State) (x i : ℕ) → resolve h x ≡ ok i → live (slot_at h i) ≡ true
resolved_live h x i e = (resolved h x i e).alive

abbrev pub in_use : ℕ → Bool
in_use k = not (eqb k 0)

live-kind : (k : ℕ) → in_use k ≡ ltb 0 k
live-kind k = elim (ℕ_discrete k 0) [
  | yes e ↦ ap not (eq-eqb k 0 e) ∙ sym (le-ltb 0 k (omega arith))
  | no n ↦ ap not (ne_eqb k 0 n) ∙ sym (lt-ltb 0 k (omega arith))
]

kinds-counted : (slots : List Slot) → length (filter in_use (map (λ (s : Slot). s.kind) slots)) ≡ live_count slots
unfolding live_count
kinds-counted [] = refl
kinds-counted (s ∷ ss) =
    go (in_use s.kind) (filter in_use (map (λ (x : Slot). x.kind) ss)) (live_count ss) (kinds-counted ss) ∙ ap (λ (b : Bool). bit b + live_count ss) (live-kind s.kind)
  where
    go : (b : Bool) (l : List ℕ) (n : ℕ) → length l ≡ n → length (cond b (s.kind ∷ l) l) ≡ bit b + n
    go true l n e = omega (arith, e)
    go false l n e = omega (arith, e)

module _ (h : Heap) (narrow wide pool : List ℕ) (w : well_formed (lent h narrow wide pool) ≡ true) where
  abbrev S : ℕ
  S = length narrow / 6

  abbrev st : State
  st = view (lent h narrow wide pool)

  kinds-are : take h.slots (drop S narrow) ≡ map (λ (s : Slot). s.kind) st.slots
  unfolding run
  kinds-are =
      let k = knows (lent h narrow wide pool) w in
      let z = sizes h narrow wide pool w in
      sym (take-take h.slots S (drop S narrow) z.in_use)
      ∙ ap (take h.slots) k.kind
      ∙ ap (λ (n : ℕ). take n (pad S (map (λ (s : Slot). s.kind) st.slots))) (let e : h.slots ≡ length (map (λ (s : Slot). s.kind) st.slots) = omega (arith, z, length-map st.slots (λ (s : Slot). s.kind)) in e)
      ∙ take-pad S (map (λ (s : Slot). s.kind) st.slots)

  pub live-counted : length (filter in_use (take (S + h.slots - S) (drop S narrow))) ≡ live_count st.slots
  live-counted =
      ap (λ (n : ℕ). length (filter in_use (take n (drop S narrow)))) (let e : S + h.slots - S ≡ h.slots = omega arith in e)
      ∙ ap (λ (l : List ℕ). length (filter in_use l)) kinds-are
      ∙ kinds-counted st.slots
