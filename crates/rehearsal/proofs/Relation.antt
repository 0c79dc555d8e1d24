-- The relation: the machine is what a heap's live slots and lists say. Assumes nothing.
use Prim.Native.Nat.{ℕ, ◌+◌, ◌≤◌, ◌<◌, max}
use native.Mathlib.Omega.{arith}
use native.Mathlib.Decide.{dec_lt}
use mathlib.Core.Bool.{true, false}
use mathlib.Core.List.{List, [], map}
use mathlib.Core.Option.{some}
use mathlib.Core.Path.{◌≡◌, refl, sym, ap, ◌∙◌, subst}
use lib.Dec.{ltb}
use lib.ListN.{length, get_or, get_or-eq_default}
use borrow.Author.Tests.{ltb-false, le-leb}
use Rattle.word.specs.Lists.{all, all_below}
use Rattle.word.specs.Result.{ok}
use Rattle.handle.specs.Handle.{packed}
use Rattle.handle.proofs.HandleLaws.{packed-fields}
use Rattle.handle.proofs.ResolveLaws.{Resolves, resolve-ok, resolve-packed}
use Rattle.heap.specs.State.{Slot, State, no_slot, slot_at, live}
use Rattle.heap.specs.Calls.{resolve, gc_due, new}
use Rattle.heap.proofs.Sound.{Sound}
use Rattle.heap.specs.WellFormed.{partitioned, retired_rightly, sound_seals, sound_reclaim, sound, fits}
use Rattle.heap.proofs.Testing.{sound-tested}
use Rattle.collection.specs.Swept.{live_size}
use Rattle.heap.proofs.Keeping.{live_inside}
use Rattle.rehearsal.specs.Machine.{Object, Machine, empty, sizes, look}
use Rattle.rehearsal.proofs.Objects.{object_of, objects, objects-sizes, Bare, Young, Found, look-there, look-found}

abbrev pub ages : List Slot → List ℕ
ages = map (λ (s : Slot). s.generation)

abbrev pub machine_of : State → Machine
machine_of h = record { objects = objects 0 h.slots; ages = ages h.slots; free = h.free; since = h.since_gc; survived = h.live_bytes }

-- what a rehearsal's heap is at each time
pub record Good (S P : ℕ) (h : State) : Type 0 where
  pub sound : Sound S P h
  pub tag : h.tag ≡ 1
  pub sealed : h.sealed ≡ []
  pub quarantine : h.quarantine ≡ []
  pub young : Young h.slots
  pub whole : (i : ℕ) → (slot_at h i).start ≡ 0

pub record Stands (S P : ℕ) (m : Machine) (h : State) : Type 0 where
  pub same : m ≡ machine_of h
  pub good : Good S P h

new-sound : sound (new 1) ≡ true
unfolding sound new all partitioned retired_rightly all_below sound_seals sound_reclaim
new-sound = refl

new-fits : (S P : ℕ) → 1 ≤ S → S ≤ 16777216 → P ≤ 1073741824 → fits S P (new 1) ≡ true
unfolding fits new
new-fits S P a b c = simp (le-leb 1 S a, le-leb S 16777216 b, le-leb P 1073741824 c, le-leb 0 S (omega arith), le-leb 0 P (omega arith))

pub stands-new : (S P : ℕ) → 1 ≤ S → S ≤ 16777216 → P ≤ 1073741824 → Stands S P empty (new 1)
unfolding new objects
stands-new S P a b c =
    record { same = refl; good = record { sound = sound-tested S P (new 1) (new-fits S P a b c) new-sound; tag = refl; sealed = refl; quarantine = refl; young = λ i. omega arith; whole = λ i. refl } }

pub stands-size : (S P : ℕ) (m : Machine) (h : State) → Stands S P m h → sizes m.objects ≡ live_size h.slots
stands-size S P m h s = ap (λ (x : Machine). sizes x.objects) s.same ∙ objects-sizes 0 h.slots

pub stands-due : (S P n : ℕ) (m : Machine) (h : State) → Stands S P m h → ltb (max n m.survived) m.since ≡ gc_due h n
stands-due S P n m h s = ap (λ (x : Machine). ltb (max n x.survived) x.since) s.same

module _ {S P : ℕ} {h : State} (g : Good S P h) where
  pub few : length h.slots ≤ 16777216
  few = omega (arith, g.sound.slots-fit, g.sound.slot-range.1)

  -- dead slots have no data
  pub bare : Bare h.slots
  bare i e =
      elim (dec_lt i (length h.slots)) [
        | yes y ↦ ap (λ (s : Slot). length s.bytes) ((g.sound.each-slot i y).dead (omega (arith, ltb-false 0 (slot_at h i).kind e)))
        | no y ↦ ap (λ (s : Slot). length s.bytes) (get_or-eq_default h.slots no_slot (omega arith))
      ]

  -- ---- handles

  pub resolved-handle : (x i : ℕ) → resolve h x ≡ ok i → (live (slot_at h i) ≡ true) × (x ≡ packed 1 i (slot_at h i).generation)
  unfolding resolve
  resolved-handle x i e =
      let r : Resolves h.tag (length h.slots) (λ j. live (slot_at h j)) (λ j. (slot_at h j).generation) x i = resolve-ok h.tag (length h.slots) (λ j. live (slot_at h j)) (λ j. (slot_at h j).generation) x i e in
      (r.alive, sym (packed-fields x) ∙ (λ q. packed ((r.own ∙ g.tag) q) (r.index q) (sym r.current q)))

  pub handle-resolves : (i : ℕ) → live (slot_at h i) ≡ true → resolve h (packed 1 i (slot_at h i).generation) ≡ ok i
  unfolding resolve
  handle-resolves i e =
      let b : i < length h.slots = live_inside h i e in
      subst (λ (t : ℕ). resolve h (packed t i (slot_at h i).generation) ≡ ok i) g.tag
      (resolve-packed h.tag (length h.slots) (λ j. live (slot_at h j)) (λ j. (slot_at h j).generation) i (omega (arith, few)) b (g.sound.each-slot i b).aged (g.young i) e)

  -- a live slot's handle finds its object
  pub looks : (i : ℕ) → live (slot_at h i) ≡ true → look (packed 1 i (slot_at h i).generation) (objects 0 h.slots) ≡ some (object_of i (slot_at h i))
  looks i e =
      let z : 0 + i ≡ i = omega arith in
      subst (λ (k : ℕ). look (packed 1 k (slot_at h i).generation) (objects 0 h.slots) ≡ some (object_of k (slot_at h i))) z (look-there 0 i h.slots g.young (live_inside h i e) e)

  pub resolved-look : (x i : ℕ) → resolve h x ≡ ok i → look x (objects 0 h.slots) ≡ some (object_of i (slot_at h i))
  resolved-look x i e = let r = resolved-handle x i e in subst (λ (y : ℕ). look y (objects 0 h.slots) ≡ some (object_of i (slot_at h i))) (sym r.1) (looks i r.0)

  -- what is found resolves
  pub record Seen (x : ℕ) (o : Object) : Type 0 where
    pub at : ℕ
    pub resolves : resolve h x ≡ ok at
    pub object : o ≡ object_of at (slot_at h at)
    pub handle : o.handle ≡ x

  pub look-seen : (x : ℕ) (o : Object) → look x (objects 0 h.slots) ≡ some o → Seen x o
  look-seen x o e =
      let f : Found x 0 h.slots o = look-found x 0 h.slots o e in
      let z : 0 + f.at ≡ f.at = omega arith in
      let q : x ≡ packed 1 f.at (slot_at h f.at).generation = f.handle ∙ ap (λ (k : ℕ). packed 1 k (slot_at h f.at).generation) z in
      let p : o ≡ object_of f.at (slot_at h f.at) = f.object ∙ ap (λ (k : ℕ). object_of k (slot_at h f.at)) z in
      record { at = f.at; resolves = ap (resolve h) q ∙ handle-resolves f.at f.alive; object = p; handle = ap (λ (y : Object). y.handle) p ∙ sym q }
