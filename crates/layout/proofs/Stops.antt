-- A step that answers `ok_or` and stops at its refusal by `?`. Assumes nothing.
use mathlib.Core.Path.{◌≡◌, ap, ◌∙◌}
use Rattle.std.specs.Prelude.{Option, Some, None, Result, Ok, Err}
use Rattle.std.specs.Option.{ok_or}
use Rattle.std.specs.Result.{IsErrAnd}
use Rattle.refusal.specs.declared.Refusal.{Refusal}

-- the answer is the refusal, since there is nothing
pub stops : {A B : Type 0} (o : Option A) (why x : Refusal) (r : Result B Refusal) → Err x ≡ ok_or o why → IsErrAnd r (λ e. e ≡ x) → r ≡ Err why
stops None why x (Err e) q h = let z : x ≡ why = cc in ap Err (h ∙ z)
stops None why x (Ok a) q h = absurd h
stops (Some a) why x r q h = cc

-- a refusal that is handed on
pub hands_on : {B : Type 0} (x : Refusal) (r : Result B Refusal) → IsErrAnd r (λ e. e ≡ x) → r ≡ Err x
hands_on x (Err e) h = ap Err h
hands_on x (Ok a) h = absurd h
