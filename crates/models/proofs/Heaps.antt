-- A heap under a type table fulfils what the comparison of two saves asks for, and shows what a collection traces. Assumes nothing.
use Prim.Native.Nat.{ℕ, suc, ◌-◌, ◌^◌, ◌≤◌, ◌<◌}
use mathlib.Core.Path.{◌≡◌, refl, sym, ap, ◌∙◌}
use mathlib.Core.List.{List, [], ◌++◌}
use lib.ListN.{length, get_or, take, drop, length-append, length-map, length-take, length-drop, get_or-map, get_or-eq_default}
use native.Mathlib.Decide.{dec_lt}
use native.Mathlib.Omega.{arith}
use Rattle.std.specs.Prelude.{Option, Some, None}
use Rattle.std.specs.List.{concat}
use Rattle.ty.specs.Types.{Const.plain, Table}
use Rattle.ty.specs.View.{part_at, read_part, table_of}
use Rattle.ty.proofs.Lookup.{const-at}
use Rattle.heap.specs.Packing.{data_at}
use Rattle.word.specs.Run.{start_of}
use Rattle.heap.specs.State.{Slot, State, no_slot, slot_at, data_of}
use Rattle.heap.proofs.Sound.{Sound}
use Rattle.heap.proofs.Packing.{concat-split}
use Rattle.heap.specs.Calls.{resolve}
use Rattle.places.specs.StrideZero.{ShortConstants}
use Rattle.collection.specs.Collected.{found}
use Rattle.collection.specs.Shown.{shown as shown_in}
use Rattle.collection.proofs.Demand.{sized}
use Rattle.alike.specs.Same.{shown, Counted, OneTable, Slots}
use Rattle.models.specs.HeapModel.{heap_model}
use Rattle.models.proofs.DescriptorFirst.{counted, one_table, object-shown}

module _ (T : Table) (h : State) where
  pub heap-resolve : (x : ℕ) → found (resolve h x) ≡ (heap_model T h).resolve x
  unfolding heap_model
  heap-resolve x = refl

  -- the objects of a heap show what a collection traces
  pub heap-shown : (i : ℕ) → shown_in T h i ≡ shown ((heap_model T h).object i)
  unfolding heap_model
  heap-shown i = sym (object-shown T (slot_at h i).kind (slot_at h i).type (slot_at h i).start (slot_at h i).bytes)

  pub heap-slots : Slots (heap_model T h) (length h.slots)
  heap-slots x i e = (sized h (shown_in T h)).resolves x i (heap-resolve x ∙ e)

  pub heap-counted : Counted (heap_model T h)
  unfolding heap_model
  heap-counted = counted T (λ x. found (resolve h x)) (λ i. (slot_at h i).kind) (λ i. (slot_at h i).type) (λ i. (slot_at h i).start) (λ i. (slot_at h i).bytes)

pub heap-one-table : (T : Table) (g h : State) → OneTable (heap_model T g) (heap_model T h)
unfolding heap_model
heap-one-table T g h =
    one_table T (λ x. found (resolve g x)) (λ i. (slot_at g i).kind) (λ i. (slot_at g i).type) (λ i. (slot_at g i).start) (λ i. (slot_at g i).bytes)
    (λ x. found (resolve h x)) (λ i. (slot_at h i).kind) (λ i. (slot_at h i).type) (λ i. (slot_at h i).start) (λ i. (slot_at h i).bytes)

-- ---- data and constants are short, as `slot_apart` asks

-- the data of a well formed heap lies in its pool
pub heap-short : (S P : ℕ) (h : State) → Sound S P h → (i : ℕ) → length (slot_at h i).bytes ≤ 1073741824
heap-short S P h s i = go (dec_lt i (length h.slots))
  where
    go : Dec (i < length h.slots) → length (slot_at h i).bytes ≤ 1073741824
    go (yes l) =
        let n : length (data_of h.slots) ≡ length h.slots = length-map h.slots (λ (x : Slot). x.bytes) in
        let d : get_or (data_of h.slots) i [] ≡ (slot_at h i).bytes = get_or-map (λ (x : Slot). x.bytes) h.slots i no_slot in
        let f = ap length (concat-split (data_of h.slots) i (omega arith)) in
        let a = length-append (concat (take i (data_of h.slots))) (get_or (data_of h.slots) i [] ++ concat (drop (suc i) (data_of h.slots))) in
        let b = length-append (get_or (data_of h.slots) i []) (concat (drop (suc i) (data_of h.slots))) in
        let e = ap length d in
        omega (arith, s.data-fit, s.pool-range)
    go (no l) = let e : (slot_at h i).bytes ≡ [] = ap (λ (x : Slot). x.bytes) (get_or-eq_default h.slots no_slot (omega arith)) in let z = ap length e in omega arith

-- what lies in a lent pool is no longer than it
pub data-short : (ends pool : List ℕ) (i : ℕ) → length pool < 2 ^ 64 → length (data_at ends pool i) < 2 ^ 64
unfolding data_at
data-short ends pool i h =
    omega (arith, length-take (get_or ends i 0 - start_of ends i) (drop (start_of ends i) pool), length-drop (start_of ends i) pool)

-- constants lie in lent bytes
pub short-constants : (w fs cs b : List ℕ) → length b < 2 ^ 64 → ShortConstants (table_of w fs cs b)
unfolding read_part
short-constants w fs cs b h c x e = go (part_at cs (length b) c) (sym (const-at cs b c) ∙ e)
  where
    go : (p : Option (ℕ × ℕ)) → read_part b p ≡ plain x → length x < 2 ^ 64
    go None e = let z : ◌≡◌ {A = ℕ} 0 1 = cc in absurd (omega arith)
    go (Some (a, d)) e =
        let q : take (d - a) (drop a b) ≡ x = cc in
        let z = ap length q in
        omega (arith, length-take (d - a) (drop a b), length-drop a b)
