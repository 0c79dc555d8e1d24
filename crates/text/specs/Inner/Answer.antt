-- What the code answers for what a reader gives: where the rest of the text begins, in a text of length `len`.
use Rattle.std.specs.Prelude.{ℕ, ◌+◌, ◌-◌, ◌*◌, ◌≤◌, ◌<◌, List, [], ◌∷◌, ◌≡◌, length, get_or, drop, Option, Some, None}
use mathlib.Core.Option as maybe
use mathlib.Core.Option.{none, some}
use Rattle.text.specs.Reading.{read_hex, digit_of, hex_digit_of, give}

-- a value and where the rest begins
abbrev pub value_answer : {A : Type 0} → (len : ℕ) → maybe.Option (A × List ℕ) → Option (A × ℕ)
value_answer len none = None
value_answer len (some r) = Some (r.0, len - length r.1)

abbrev pub literal_answer : (len : ℕ) → maybe.Option (List ℕ) → Option ℕ
literal_answer len none = None
literal_answer len (some rest) = Some (len - length rest)

-- with n bytes read before
abbrev pub hex_more : (len n : ℕ) → maybe.Option (List ℕ × List ℕ) → Option (ℕ × ℕ)
hex_more len n none = None
hex_more len n (some r) = Some (n + length r.0, len - length r.1)

abbrev pub hex_answer : (len : ℕ) → maybe.Option (List ℕ × List ℕ) → Option (ℕ × ℕ)
hex_answer len none = None
hex_answer len (some r) = Some (length r.0, len - length r.1)

-- the digit d stands at `at`
pub record DigitAt (s : List ℕ) (at d : ℕ) : Type 0 where
  pub inside : at < length s
  pub digit : digit_of (get_or s at 0) ≡ some d

-- the bytes that a text spells from `at` on
unfoldable pub hex_at : List ℕ → ℕ → List ℕ
hex_at s at = elim (read_hex (drop at s)) [ none ↦ [] | some r ↦ r.0 ]

-- it does spell them
pub record HexParsed (s : List ℕ) (at : ℕ) : Type 0 where
  pub rest : List ℕ
  pub reads : read_hex (drop at s) ≡ give (hex_at s at) rest

-- a byte is a hexadecimal digit
abbrev pub HexDigit : ℕ → Type 0
HexDigit b = hex_digit_of b ≡ none → ⊥

-- n of them stand from `at` on
pub record HexDigits (s : List ℕ) (at n : ℕ) : Type 0 where
  pub within : at + n ≤ length s
  pub each : (j : ℕ) → j < n → HexDigit (get_or s (at + j) 0)

-- the text from `at` up to r spells `count` bytes, whatever follows
pub record HexRun (s : List ℕ) (at r count : ℕ) : Type 0 where
  pub far : r ≡ at + 2 * count
  pub reads : hex_answer (length s) (read_hex (drop at s)) ≡ hex_more (length s) count (read_hex (drop r s))

-- a text that does not go on with a digit
unfoldable pub Stops : List ℕ → Type 0
Stops [] = Unit
Stops (b ∷ bs) = digit_of b ≡ none
