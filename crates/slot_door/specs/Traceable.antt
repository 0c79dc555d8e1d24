-- `traceable`: do a heap and a type table fit together (01, "Traced handles")? Every object of kind Typed has a type of the table, and its handles can be traced. 18, 1, 10, and 13 with the
-- first slot that does not fit.
use Rattle.std.specs.Prelude.{ℕ, zero, suc, Bool, true, false, ◌&&◌, List, [], ◌∷◌, map, eqb, ltb, length, if◌then◌else◌}
use Rattle.std.proofs.Math.Option.{Option, none, some}
use Rattle.refusal.specs.Told.{number_of, refused_by}
use Rattle.refusal.specs.declared.Answer.{Answer}
use Rattle.ty.specs.Types.{Table}
use Rattle.ty.specs.View.{table_of}
use Rattle.heap.specs.State.{State, slot_at}
use Rattle.heap.specs.Lent.{Lent, view}
use Rattle.collection.specs.Shown.{shown}
use Rattle.door.specs.HeapCalls.{admitted, whether, scratch_after, zeros, Asked, asked_of}
use Rattle.std.specs.Prelude.{Err}
use Rattle.slot_door.specs.SlotHandles.{slot_tests}

-- the handles can be traced
abbrev pub traced : Option (List ℕ) → Bool
traced none = false
traced (some hs) = true

-- an object of kind Typed is of a type of the table and can be traced; a dead slot, and an object of another kind, always fits
unfoldable pub fits_table : Table → State → ℕ → Bool
fits_table T h i = if eqb (slot_at h i).kind 1 then ltb (slot_at h i).type (length T.types) && traced (shown T h i) else true

-- the first number that does not pass a test, of n from i on
unfoldable pub first_failing : (ℕ → Bool) → (n i : ℕ) → Option ℕ
first_failing test zero i = none
first_failing test (suc n) i = if test i then first_failing test n (suc i) else some i

abbrev pub misfit : Table → State → Option ℕ
misfit T h = first_failing (fits_table T h) (length h.slots) 0

-- the slot is told beside the refusal
abbrev pub misfit_told : Option ℕ → Answer
misfit_told none = refused_by 0
misfit_told (some i) = record { number = 13; first = i; second = 0 }

-- w, fs, cs, b: the table's types, fields, constants and their bytes
abbrev pub trace_call : (w fs cs b marks work : List ℕ) → Lent → Asked
trace_call w fs cs b marks work l =
    whether (admitted (slot_tests w fs cs b marks work l))
    (λ why. asked_of (refused_by (number_of why)) (scratch_after (Err why) (marks ∷ work ∷ [])))
    (asked_of (misfit_told (misfit (table_of w fs cs b) (view l))) (map zeros (marks ∷ work ∷ [])))
