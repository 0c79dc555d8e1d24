-- Text as it is read: what was read, and the rest of the text.
use Rattle.std.specs.Prelude.{ℕ, zero, suc, ◌+◌, ◌-◌, ◌*◌, List, [], ◌∷◌, Bool, true, false, ◌&&◌, leb, eqb, if◌then◌else◌}
use Rattle.std.proofs.Math.Option.{Option, none, some}
use Rattle.text.specs.Text.{newline, read_literal}

-- one reader after another
infixl 20 ◌>>=◌
abbrev pub ◌>>=◌ : {A B : Type 0} → Option A → (A → Option B) → Option B
none >>= f = none
some a >>= f = f a

abbrev pub Reader : Type 0 → Type 0
Reader A = List ℕ → Option (A × List ℕ)

-- what was read, and what is left
abbrev pub give : {A : Type 0} → A → List ℕ → Option (A × List ℕ)
give a rest = some (a, rest)

-- after a name its fields are read; without it, something else
abbrev pub named : {A : Type 0} → Option (List ℕ) → Reader A → Option (A × List ℕ) → Option (A × List ℕ)
named none fields other = other
named (some t) fields other = fields t

-- the digit that a byte is
unfoldable pub digit_of : ℕ → Option ℕ
digit_of b = if leb 48 b && leb b 57 then some (b - 48) else none

unfoldable pub ends : List ℕ → Bool
ends [] = true
ends (b ∷ bs) = elim (digit_of b) [ none ↦ true | some d ↦ false ]

-- the number that a text goes on to spell, after digits that spelled n
unfoldable pub scan : (n : ℕ) → List ℕ → ℕ × List ℕ
scan n [] = (n, [])
scan n (b ∷ bs) = elim (digit_of b) [ none ↦ (n, b ∷ bs) | some d ↦ scan (n * 10 + d) bs ]

-- a number that is at most `most`
unfoldable pub capped : (most : ℕ) → ℕ × List ℕ → Option (ℕ × List ℕ)
capped most r = if leb r.0 most then some r else none

-- after the first digit: nothing follows a zero
unfoldable pub after : (most d : ℕ) → Reader ℕ
after most zero t = if ends t then give 0 t else none
after most (suc d) t = capped most (scan (suc d) t)

-- a number in decimal, at most `most`
unfoldable pub read_decimal : (most : ℕ) → Reader ℕ
read_decimal most [] = none
read_decimal most (b ∷ bs) = digit_of b >>= λ d. after most d bs

-- the hexadecimal digit that a byte is
unfoldable pub hex_digit_of : ℕ → Option ℕ
hex_digit_of b =
    if leb 48 b && leb b 57 then some (b - 48)
    else if leb 97 b && leb b 102 then some (b - 87)
    else none

-- the byte that two hexadecimal digits spell
unfoldable pub byte_of : ℕ → ℕ → Option ℕ
byte_of a b = hex_digit_of a >>= λ x. hex_digit_of b >>= λ y. some (x * 16 + y)

-- bytes in hexadecimal up to the line's end, which is read too
unfoldable pub read_hex : Reader (List ℕ)
read_hex [] = none
read_hex (a ∷ []) = if eqb a newline then give [] [] else none
read_hex (a ∷ b ∷ t) =
    if eqb a newline then give [] (b ∷ t)
    else (byte_of a b >>= λ x. read_hex t >>= λ r. give (x ∷ r.0) r.1)

-- a number of at most `most`, and the byte after it
unfoldable pub read_field : (most end : ℕ) → Reader ℕ
read_field most end t = read_decimal most t >>= λ r. read_literal (end ∷ []) r.1 >>= λ u. give r.0 u
