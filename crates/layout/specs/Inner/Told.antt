-- What the code of a layout answers, in the words of the definitions.
use Rattle.std.specs.Prelude.{ℕ, Ok, Err}
use Rattle.std.specs.Prelude.{Result as Outcome}
use Rattle.refusal.specs.declared.Refusal.{Refusal}
use Rattle.layout.specs.declared.Layout.{Layout}
use Rattle.word.specs.Result.{Result, ok, refused}
use Rattle.refusal.specs.Told.{number_of}
use Rattle.layout.specs.Offsets.{Values, values}

-- a layout with how many offsets were written, or why there is none
abbrev pub WithOffsets : Type 0
WithOffsets = Outcome (Layout × ℕ) Refusal

-- each answer's number and values
abbrev pub told : WithOffsets → Result Values
told (Ok (l, k)) = ok (values l k)
told (Err e) = refused (number_of e)
