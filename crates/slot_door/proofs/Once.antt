-- Numbers tell apart what `traceable` finds (specs/Once.antt). Assumes nothing.
use mathlib.Core.Path.{◌≡◌, refl, sym, ap}
use mathlib.Core.Bool.{Bool, true, false}
use mathlib.Core.List.{List}
use mathlib.Core.Option.{Option, none, some}
use Prim.Native.Nat.{ℕ}
use native.Mathlib.Omega.{arith}
use Rattle.std.specs.Prelude.{Ok, Err, if◌then◌else◌}
use Rattle.refusal.specs.Told.{Reply, number_of, refused_by}
use Rattle.refusal.specs.declared.Answer.{Answer}
use Rattle.refusal.specs.declared.Refusal.{Refusal}
use Rattle.refusal.specs.declared.Refusal.TheVariants.{BrokenHeap, TypeTable, Scratch, Untraceable}
use Rattle.refusal.proofs.Numbers.{told-once, number-once, number}
use Rattle.ty.specs.Check.{table_good}
use Rattle.ty.specs.View.{table_of}
use Rattle.heap.specs.Lent.{view}
use Rattle.heap.specs.WellFormed.{well_formed}
use Rattle.door.specs.HeapCalls.{Entry, admitted, whether, enough, ready, asked_of, scratch_after}
use Rattle.slot_door.specs.SlotHandles.{slot_tests}
use Rattle.slot_door.specs.Traceable.{misfit, misfit_told}
use Rattle.slot_door.specs.Once.{Finding, finding_told, FoundTold, FoundZero, FoundOnce}

-- the number of a test's refusal, 0 where none fails
abbrev turned : Finding → ℕ
turned (Ok o) = 0
turned (Err why) = number_of why

not-13 : (a b c : Bool) (m : Option ℕ)
    → whether (if a then (if b then (if c then ready else Err TypeTable) else Err BrokenHeap) else Err Scratch) (λ why. Err why) (Ok m) ≡ Err Untraceable → ⊥
not-13 false b c m e = let z : ◌≡◌ {A = ℕ} 18 13 = ap turned e in omega (arith, z)
not-13 true false c m e = let z : ◌≡◌ {A = ℕ} 1 13 = ap turned e in omega (arith, z)
not-13 true true false m e = let z : ◌≡◌ {A = ℕ} 10 13 = ap turned e in omega (arith, z)
not-13 true true true m e = let z : ◌≡◌ {A = ℕ} 0 13 = ap turned e in omega (arith, z)

either-told : (e : Entry) (m : Option ℕ) (scratch cleared : List (List ℕ))
    → (whether e (λ why. asked_of (refused_by (number_of why)) (scratch_after (Err why) scratch)) (asked_of (misfit_told m) cleared)).answer ≡ finding_told (whether e (λ why. Err why) (Ok m))
either-told (Ok _) m scratch cleared = refl
either-told (Err why) m scratch cleared = refl

pub found-told : FoundTold
unfolding admitted
found-told w fs cs b marks work l = (
  either-told (admitted (slot_tests w fs cs b marks work l)) (misfit (table_of w fs cs b) (view l)) _ _,
  not-13 (enough marks work l) (well_formed l) (table_good w fs cs b) (misfit (table_of w fs cs b) (view l)),
)

-- no refusal has the number of success, whose numbers would be those of two zeros
done-not : {X : Type 0} (why : Refusal) → refused_by 0 ≡ refused_by (number_of why) → X
done-not why e =
    let same : ◌≡◌ {A = Reply} (Ok (0, 0)) (Err why) = told-once (Ok (0, 0)) (Err why) e in
    let z : ◌≡◌ {A = ℕ} 0 1 = cc in absurd (omega (arith, z))

pub found-zero : FoundZero
found-zero (Ok none) = (λ e. refl, λ h. refl)
found-zero (Ok (some i)) = (λ e. let z : ◌≡◌ {A = ℕ} 13 0 = e in absurd (omega (arith, z)), λ h. number (ap finding_told h))
found-zero (Err why) = (λ e. done-not why (ap refused_by (sym e)), λ h. number (ap finding_told h))

-- the slot that is told beside 13
abbrev slot_in : Answer → Finding
slot_in a = Ok (some a.first)

pub found-once : FoundOnce
found-once (Ok none) (Ok none) nr ns e = refl
found-once (Ok none) (Ok (some j)) nr ns e = let z : ◌≡◌ {A = ℕ} 0 13 = number e in absurd (omega (arith, z))
found-once (Ok none) (Err why) nr ns e = done-not why e
found-once (Ok (some i)) (Ok none) nr ns e = let z : ◌≡◌ {A = ℕ} 13 0 = number e in absurd (omega (arith, z))
found-once (Ok (some i)) (Ok (some j)) nr ns e = ap slot_in e
found-once (Ok (some i)) (Err why) nr ns e = absurd (ns (ap (λ (x : Refusal). Err x) (sym (number-once Untraceable why (number e)))))
found-once (Err why) (Ok none) nr ns e = done-not why (sym e)
found-once (Err why) (Ok (some j)) nr ns e = absurd (nr (ap (λ (x : Refusal). Err x) (number-once why Untraceable (number e))))
found-once (Err why) (Err x) nr ns e = ap (λ (y : Refusal). Err y) (number-once why x (number e))
