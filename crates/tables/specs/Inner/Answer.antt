-- What the code answers for what a reader finds: where the rest of the text begins, and what holds of the values that stand there.
use Rattle.std.specs.Prelude.{ℕ, ◌+◌, ◌-◌, ◌*◌, ◌≤◌, ◌≡◌, length, drop}
use mathlib.Core.List.{List, [], flat_map}
use mathlib.Core.Option as maybe
use mathlib.Core.Option.{none, some}
use Rattle.text.specs.Reading.{Reader, give}
use Rattle.text.specs.Format.{read_all}
use Rattle.tables.specs.Table.{row_line}
use Rattle.tables.specs.Reading.{read_name}
use Rattle.tables.specs.Lists.{rows_of}
use Rattle.std.specs.Prelude.{Option, Some, None}

-- in a text of length `len`
abbrev pub ending : {A : Type 0} → (len : ℕ) → maybe.Option (A × List ℕ) → Option ℕ
ending len none = None
ending len (some r) = Some (len - length r.1)

-- `count` values stand in the text from `at` to k, and P holds of them
pub record GotAll {A : Type 0} (r : Reader A) (s : List ℕ) (at count : ℕ) (P : List A → Type 0) (k : ℕ) : Type 0 where
  pub values : List A
  pub reads : read_all r count (drop at s) ≡ give values (drop k s)
  pub inside : k ≤ length s
  pub long : length values ≡ count
  pub holds : P values

-- they stand there, or not all of them do
pub record Got {A : Type 0} (r : Reader A) (s : List ℕ) (at count : ℕ) (P : List A → Type 0) (x : Option ℕ) : Type 0 where
  pub past : (k : ℕ) → x ≡ Some k → GotAll r s at count P k
  pub lost : x ≡ None → read_all r count (drop at s) ≡ none

-- LINES THAT ARE PUT

-- the names that stand in lent names from `at` on
unfoldable pub names_at : List ℕ → (at count : ℕ) → List (List ℕ)
names_at s at count = elim (read_all read_name count (drop at s)) [ none ↦ [] | some r ↦ r.0 ]

-- names stand there, with k numbers for each, and their lines fit into an output of `room` bytes from `at` on
pub record RowsReady (k : ℕ) (list names : List ℕ) (from count at room : ℕ) : Type 0 where
  pub rest : List ℕ
  pub reads : read_all read_name count (drop from names) ≡ give (names_at names from count) rest
  pub inside : from ≤ length names
  pub long : k * count ≤ length list
  pub fits : at + length (flat_map row_line (rows_of k list (names_at names from count))) ≤ room
