-- The answer of `resolve` as code gives it, in the words of the definition.
use Rattle.std.specs.Prelude.{ℕ}
use Rattle.word.specs.Result.{Result, ok, refused}
use Rattle.std.specs.Prelude.{Result as Outcome, Ok, Err}
use Rattle.refusal.specs.declared.Refusal.{Refusal}
use Rattle.refusal.specs.Told.{number_of}

-- the number or the slot index that an answer of `resolve` stands for
abbrev pub told : Outcome ℕ Refusal → Result ℕ
told (Ok i) = ok i
told (Err why) = refused (number_of why)
