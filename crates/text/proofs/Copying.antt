-- Bytes out of hexadecimal.
use Prim.Native.Nat.{ℕ, zero, suc, ◌+◌, ◌*◌, ◌/◌, ◌%◌, ◌<◌}
use Rattle.text.specs.Text.{Bytes, hex, hex_digit, newline}
use Rattle.text.specs.Reading.{hex_digit_of, read_hex, give}
use Rattle.text.specs.Inner.Answer.{hex_at, HexParsed, HexDigit}
use Rattle.text.proofs.Laws.{none-not-some, some_inj, hex-digit-forth, hex-back, hex-length}
use mathlib.Core.List.{List, [], ◌∷◌, ◌++◌}
use mathlib.Core.Path.{◌≡◌, refl, sym, ap, ◌∙◌}
use lib.ListN.{length, drop, get_or, length-drop, length-append}
use lib.Seq.{get_or-drop}
use native.Mathlib.Omega.{arith}
use mathlib.Core.Option.{Option, none, some}

byte_at : (bs : List ℕ) (i : ℕ) → Bytes bs → i < length bs → get_or bs i 0 < 256
byte_at [] i b h = absurd (omega arith)
byte_at (x ∷ bs) zero b h = b.0
byte_at (x ∷ bs) (suc i) b h = byte_at bs i b.1 (omega arith)

digits-at : (bs t : List ℕ) (i : ℕ) → i < length bs →
    (get_or (hex bs ++ t) (2 * i) 0 ≡ hex_digit (get_or bs i 0 / 16)) × (get_or (hex bs ++ t) (2 * i + 1) 0 ≡ hex_digit (get_or bs i 0 % 16))
unfolding hex
digits-at [] t i h = absurd (omega arith)
digits-at (x ∷ bs) t zero h = (refl, refl)
digits-at (x ∷ bs) t (suc i) h =
    let r = digits-at bs t i (omega arith) in (
      ap (λ (n : ℕ). get_or (hex (x ∷ bs) ++ t) n 0) (let v : 2 * suc i ≡ suc (suc (2 * i)) = omega arith in v) ∙ r.0,
      ap (λ (n : ℕ). get_or (hex (x ∷ bs) ++ t) n 0) (let v : 2 * suc i + 1 ≡ suc (suc (2 * i + 1)) = omega arith in v) ∙ r.1,
    )

pub hex-is : (s : List ℕ) (at : ℕ) (b t : List ℕ) → read_hex (drop at s) ≡ give b t → hex_at s at ≡ b
unfolding hex_at
hex-is s at b t e = rw (e, hex_at)

-- bytes are spelled where reading them answers something
pub parsed : (s : List ℕ) (at : ℕ) → (read_hex (drop at s) ≡ none → ⊥) → HexParsed s at
parsed s at f = go (read_hex (drop at s)) refl
  where
    go : (o : Option (List ℕ × List ℕ)) → read_hex (drop at s) ≡ o → HexParsed s at
    go none e = absurd (f e)
    go (some r) e = record { rest = r.1; reads = e ∙ ap (λ (b : List ℕ). give b r.1) (sym (hex-is s at r.0 r.1 e)) }

pub unlost : (s : List ℕ) (at : ℕ) → HexParsed s at → read_hex (drop at s) ≡ none → ⊥
unlost s at p e = none-not-some (sym e ∙ p.reads)

module _ (s : List ℕ) (at : ℕ) (p : HexParsed s at) (i : ℕ) (h : i < length (hex_at s at)) where
  spelled : Bytes (hex_at s at) × (hex (hex_at s at) ++ (newline ∷ p.rest) ≡ drop at s)
  spelled = hex-back (drop at s) (hex_at s at) p.rest p.reads

  pub inside : at + 2 * i + 1 < length s
  inside = omega (arith, length-drop at s, ap length spelled.1, length-append (hex (hex_at s at)) (newline ∷ p.rest), hex-length (hex_at s at))

  high_digit : get_or s (at + 2 * i) 0 ≡ hex_digit (get_or (hex_at s at) i 0 / 16)
  high_digit = sym (get_or-drop at s (2 * i) 0) ∙ ap (λ (t : List ℕ). get_or t (2 * i) 0) (sym spelled.1) ∙ (digits-at (hex_at s at) (newline ∷ p.rest) i h).0

  low_digit : get_or s (at + (2 * i + 1)) 0 ≡ hex_digit (get_or (hex_at s at) i 0 % 16)
  low_digit = sym (get_or-drop at s (2 * i + 1) 0) ∙ ap (λ (t : List ℕ). get_or t (2 * i + 1) 0) (sym spelled.1) ∙ (digits-at (hex_at s at) (newline ∷ p.rest) i h).1

  pub the-byte : get_or (hex_at s at) i 0 < 256
  the-byte = byte_at (hex_at s at) i spelled.0 h

  -- the digits of the byte
  pub high-is : hex_digit_of (get_or s (at + 2 * i) 0) ≡ some (get_or (hex_at s at) i 0 / 16)
  high-is = ap hex_digit_of high_digit ∙ hex-digit-forth (get_or (hex_at s at) i 0 / 16) (omega (arith, the-byte))

  pub low-is : hex_digit_of (get_or s (at + 2 * i + 1) 0) ≡ some (get_or (hex_at s at) i 0 % 16)
  low-is =
      ap (λ (n : ℕ). hex_digit_of (get_or s n 0)) (let v : at + 2 * i + 1 ≡ at + (2 * i + 1) = omega arith in v) ∙ ap hex_digit_of low_digit
      ∙ hex-digit-forth (get_or (hex_at s at) i 0 % 16) (omega (arith, the-byte))

  pub high-digit : HexDigit (get_or s (at + 2 * i) 0)
  high-digit = λ e. none-not-some (sym e ∙ high-is)

  pub low-digit : HexDigit (get_or s (at + 2 * i + 1) 0)
  low-digit = λ e. none-not-some (sym e ∙ low-is)

-- a byte from its two digits' values
pub record Spelled (s : List ℕ) (at i a b : ℕ) : Type 0 where
  pub small : 16 * a < 256
  pub whole : 16 * a + b < 256
  pub value : 16 * a + b ≡ get_or (hex_at s at) i 0

pub hex-value-small : (s : List ℕ) (at i a : ℕ) → HexParsed s at → i < length (hex_at s at) → hex_digit_of (get_or s (at + 2 * i) 0) ≡ some a → a < 16
hex-value-small s at i a p h e =
    let x : a ≡ get_or (hex_at s at) i 0 / 16 = some_inj (sym e ∙ high-is s at p i h) in
    omega (arith, the-byte s at p i h)

pub from-digits : (s : List ℕ) (at i a b : ℕ) → HexParsed s at → i < length (hex_at s at) → hex_digit_of (get_or s (at + 2 * i) 0) ≡ some a →
    hex_digit_of (get_or s (at + 2 * i + 1) 0) ≡ some b → Spelled s at i a b
from-digits s at i a b p h ea eb =
    let x : a ≡ get_or (hex_at s at) i 0 / 16 = some_inj (sym ea ∙ high-is s at p i h) in
    let y : b ≡ get_or (hex_at s at) i 0 % 16 = some_inj (sym eb ∙ low-is s at p i h) in
    let z : get_or (hex_at s at) i 0 < 256 = the-byte s at p i h in
    record { small = omega arith; whole = omega arith; value = omega arith }
