-- The number of an answer.
use Rattle.std.specs.Prelude.{ℕ}
use Rattle.word.specs.Result.{Result, ok, refused}

-- the number that the host is told: 0 for success
abbrev pub number : {A : Type 0} → Result A → ℕ
number (ok a) = 0
number (refused n) = n
