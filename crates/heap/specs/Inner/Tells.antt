-- What a call leaves in lent memory and answers: the shape of the inner calls' contracts.
use Rattle.std.specs.Prelude.{◌≡◌, ℕ}
use Rattle.word.specs.Result.{Result}
use Rattle.refusal.specs.Told.{told, answered, Reply}
use Rattle.heap.specs.Lent.{Lent}
use Rattle.heap.specs.Calls.{Changed}
use Rattle.heap.specs.Done.{Leaves}

-- it holds what the call leaves, and the answer is the call's
pub record Does {A : Type 0} (l l' : Lent) (answer : Result A) (call : Changed A) : Type 0 where
  pub leaves : Leaves l l' call.heap
  pub says : answer ≡ call.answer

-- it holds what the call leaves, and the reply is the call's; `first` and `second` read the numbers off its value
pub record Tells {A : Type 0} (first second : A → ℕ) (l l' : Lent) (reply : Reply) (call : Changed A) : Type 0 where
  pub leaves : Leaves l l' call.heap
  pub says : told reply ≡ answered first second call.answer
