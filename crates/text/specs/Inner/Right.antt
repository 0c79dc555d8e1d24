-- When a format is right: what is printed is read back, and what is read was printed.
use Rattle.std.specs.Prelude.{ℕ, ◌≡◌}
use mathlib.Core.List.{List, ◌++◌}
use Rattle.text.specs.Reading.{give}
use Rattle.text.specs.Format.{Format}

-- what makes a format right for the values that are `good`: reading what was printed gives the value back and the rest of the text,
-- and what was read was printed from just that value
pub record Right {A : Type 0} (f : Format A) (good : A → Type 0) : Type 0 where
  pub forth : (a : A) (rest : List ℕ) → good a → f.read (f.print a ++ rest) ≡ give a rest
  pub back : (t : List ℕ) (a : A) (rest : List ℕ) → f.read t ≡ give a rest → good a × (f.print a ++ rest ≡ t)
