-- Text as a list of byte values: names, decimal numbers without spare zeros, lowercase hexadecimal, lines of fields.
use Rattle.std.specs.Prelude.{ℕ, zero, suc, ◌+◌, ◌/◌, ◌%◌, ◌<◌, List, [], ◌∷◌, ◌++◌, ltb, eqb, if◌then◌else◌}
use Prim.Native.Char.{code}
use Prim.Native.String.{String}
use Rattle.std.proofs.Math.Option.{Option, none, some}
use Prim.Native.String as text

-- the bytes of a text in ASCII
unfoldable pub ascii : String → List ℕ
ascii text.[] = []
ascii (text.◌∷◌ c s) = code c ∷ ascii s

abbrev pub newline : ℕ
newline = 10

abbrev pub comma : ℕ
comma = 44

-- every value is a byte
abbrev pub Bytes : List ℕ → Type 0
Bytes [] = Unit
Bytes (b ∷ bs) = (b < 256) × Bytes bs

-- every element is good
abbrev pub All : {A : Type 0} → (A → Type 0) → List A → Type 0
All good [] = Unit
All good (a ∷ l) = good a × All good l

-- PRINTING

-- the decimal digits of a number, at most `most` of them: '0' is 48
unfoldable pub digits : (most : ℕ) → ℕ → List ℕ
digits zero n = []
digits (suc most) n =
    let high = digits most (n / 10) in
    if ltb n 10 then (48 + n) ∷ [] else high ++ ((48 + n % 10) ∷ [])

-- a number has no more digits than one more than itself
unfoldable pub decimal : ℕ → List ℕ
decimal n = digits (suc n) n

-- a digit below 16: '0' is 48, 'a' is 97
unfoldable pub hex_digit : ℕ → ℕ
hex_digit d = if ltb d 10 then 48 + d else 87 + d

-- two digits a byte
unfoldable pub hex : List ℕ → List ℕ
hex [] = []
hex (b ∷ bs) = hex_digit (b / 16) ∷ hex_digit (b % 16) ∷ hex bs

-- fields with commas between them, then the line's end
unfoldable pub line : List (List ℕ) → List ℕ
line [] = newline ∷ []
line (f ∷ []) = f ++ (newline ∷ [])
line (f ∷ g ∷ fs) = f ++ (comma ∷ line (g ∷ fs))

-- what stands after a literal
unfoldable pub read_literal : List ℕ → List ℕ → Option (List ℕ)
read_literal [] t = some t
read_literal (c ∷ cs) [] = none
read_literal (c ∷ cs) (b ∷ t) = if eqb c b then read_literal cs t else none
