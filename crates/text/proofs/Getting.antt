-- What the code's tests say of the readers.
use Prim.Native.Nat.{ℕ, zero, suc, ◌+◌, ◌-◌, ◌*◌, ◌/◌, ◌^◌, ◌≤◌, ◌<◌}
use mathlib.Core.List.{List, [], ◌∷◌, ◌++◌, append_assoc}
use mathlib.Core.Bool.{Bool, true, false, true≢false, ◌&&◌}
use mathlib.Core.Option as maybe
use mathlib.Core.Option.{none, some}
use mathlib.Core.Path.{◌≡◌, refl, sym, ap, ◌∙◌, subst}
use lib.Dec.{leb, ltb, eqb}
use lib.Pointwise.{pointwise}
use Rattle.std.specs.List.{starts_with}
use lib.ListN.{length, take, drop, get_or, length-drop, drop_of_length-le}
use lib.Seq.{drop-drop, drop-append_seam, take_all, length-take-le, get_or-take, get_or-drop}
use native.Mathlib.Decide.{ℕ_discrete}
use native.Mathlib.Omega.{arith}
use native.Mathlib.Nat.{zero-add}
use borrow.Author.Tests.{le-leb, lt-leb, eq-eqb, ne_eqb, leb-true, leb-false, ltb-true}
use Rattle.std.proofs.lemmas.List.{get_or_read}
use Rattle.word.proofs.ListLaws.{drop-cons-one}
use Rattle.word.proofs.Bools.{and_both}
use Rattle.text.specs.Text.{decimal, hex, newline, Bytes, read_literal}
use Rattle.text.specs.Reading.{◌>>=◌, give, digit_of, ends, scan, capped, after, read_decimal, hex_digit_of, byte_of, read_hex, read_field}
use Rattle.text.specs.Inner.Answer.{Stops, value_answer, literal_answer, value_answer, hex_answer, hex_more, HexDigit, HexDigits, HexRun, DigitAt}
use Rattle.text.specs.Format.{Format, either, number}
use Rattle.text.specs.Inner.Right.{Right}
use Rattle.std.specs.Prelude.{Option, Some, None, MatchOption, MatchBool, is_some}
use Rattle.text.proofs.Laws.{none-not-some, ends-stops, scan-some, scan-stops, scan-grows, read-digit, decimal-back, number-right, hex-back, literal-back}

pub low : (b : ℕ) → b < 48 → digit_of b ≡ none
unfolding digit_of
low b h = rw (lt-leb 48 b h)

pub high : (b : ℕ) → 57 < b → digit_of b ≡ none
unfolding digit_of
high b h = rw (lt-leb b 57 h, le-leb 48 b (omega arith))

pub mid : (b : ℕ) → 48 ≤ b → b ≤ 57 → digit_of b ≡ some (b - 48)
unfolding digit_of
mid b h k = rw (le-leb 48 b h, le-leb b 57 k)

-- a byte that `get` has found
pub byte-read : (s : List ℕ) (i b : ℕ) → true ≡ ltb i (length s) → b ≡ get_or s i b → (i < length s) × (b ≡ get_or s i 0)
byte-read s i b h e = let l : i < length s = ltb-true i (length s) (sym h) in (l, get_or_read s i b l e 0)

module _ (s : List ℕ) (i : ℕ) where
  pub stops_at : i < length s → digit_of (get_or s i 0) ≡ none → Stops (drop i s)
  unfolding Stops
  stops_at h e = rw (drop-cons-one s i h) e

  pub stops_end : length s ≤ i → Stops (drop i s)
  unfolding Stops
  stops_end h = rw (drop_of_length-le s {i = i} h) tt

  pub goes_on : i < length s → (d : ℕ) → digit_of (get_or s i 0) ≡ some d → ends (drop i s) ≡ false
  unfolding ends
  goes_on h d e = rw (drop-cons-one s i h) (rw (e, ends))

  pub step : i < length s → (n d : ℕ) → digit_of (get_or s i 0) ≡ some d → scan n (drop i s) ≡ scan (n * 10 + d) (drop (i + 1) s)
  step h n d e = rw (drop-cons-one s i h) (scan-some n (get_or s i 0) d (drop (i + 1) s) e)

pub step-at : {s : List ℕ} {i d : ℕ} (n : ℕ) → DigitAt s i d → scan n (drop i s) ≡ scan (n * 10 + d) (drop (i + 1) s)
step-at {s} {i} {d} n h = step s i h.inside n d h.digit

-- no digit, by its byte's value
pub stops-low : (s : List ℕ) (i b : ℕ) → i < length s → b ≡ get_or s i 0 → b < 48 → Stops (drop i s)
stops-low s i b h e l = stops_at s i h (ap digit_of (sym e) ∙ low b l)

pub stops-high : (s : List ℕ) (i b : ℕ) → i < length s → b ≡ get_or s i 0 → 57 < b → Stops (drop i s)
stops-high s i b h e l = stops_at s i h (ap digit_of (sym e) ∙ high b l)

-- a number that stands there
pub found : (s : List ℕ) (most i n : ℕ) (r : ℕ × List ℕ) → n ≤ most → i ≤ length s → r ≡ scan n (drop i s) → Stops (drop i s) →
    Some (n, i) ≡ value_answer (length s) (capped most r)
unfolding capped
found s most i n r h k e t =
    rw (e, scan-stops n (drop i s) t, le-leb n most h) (ap (λ (m : ℕ). Some (n, m)) (let v : i ≡ length s - length (drop i s) = omega (arith, length-drop i s) in v))

-- a number that is too large
pub past : (s : List ℕ) (most n : ℕ) (t : List ℕ) (r : ℕ × List ℕ) → most < n → r ≡ scan n t → None ≡ value_answer (length s) (capped most r)
unfolding capped
past s most n t r h e = rw (e, lt-leb (scan n t).0 most (omega (arith, scan-grows n t)))

-- what `is_some` tells of a call
pub not-some : (P : Type 0) (Q : ℕ → Type 0) (x : Option ℕ) {b : Bool} → MatchOption x P Q → b ≡ is_some x → b ≡ false → P
not-some P Q None m e f = m
not-some P Q (Some d) m e f = absurd (true≢false (sym e ∙ f))

pub is-some : (P : Type 0) (Q : ℕ → Type 0) (x : Option ℕ) {b : Bool} → MatchOption x P Q → b ≡ is_some x → b ≡ true → (d : ℕ) × Q d
is-some P Q None m e f = absurd (true≢false (sym f ∙ e))
is-some P Q (Some d) m e f = (d, m)

nothing-read : (most : ℕ) (t : List ℕ) → Stops t → read_decimal most t ≡ none
unfolding read_decimal Stops
nothing-read most [] h = refl
nothing-read most (b ∷ t) h = rw h

-- the first digit, or none
module _ (s : List ℕ) (most at : ℕ) where
  pub no-digit-there : Stops (drop at s) → None ≡ value_answer (length s) (read_decimal most (drop at s))
  no-digit-there h = rw (nothing-read most (drop at s) h)

  pub read_at : (d : ℕ) → DigitAt s at d → read_decimal most (drop at s) ≡ after most d (drop (at + 1) s)
  read_at d h = rw (drop-cons-one s at h.inside) (read-digit most (get_or s at 0) d (drop (at + 1) s) h.digit)

  pub spare-zero : (z : ℕ) → DigitAt s at z → z ≡ 0 → (d : ℕ) × DigitAt s (at + 1) d → None ≡ value_answer (length s) (read_decimal most (drop at s))
  unfolding after
  spare-zero zero h e f = rw (read_at 0 h) (rw (goes_on s (at + 1) f.1.inside f.0 f.1.digit))
  spare-zero (suc z) h e f = absurd (omega (arith, e))

  -- a zero that nothing follows is a number of one digit
  pub one-zero : (z : ℕ) → DigitAt s at z → z ≡ 0 → Stops (drop (at + 1) s) → read_decimal most (drop at s) ≡ capped most (scan z (drop (at + 1) s))
  unfolding after capped
  one-zero (suc z) h e f = absurd (omega (arith, e))
  one-zero zero h e f = rw (read_at 0 h, ends-stops (drop (at + 1) s) f, scan-stops 0 (drop (at + 1) s) f, le-leb 0 most (omega arith))

  -- what follows was looked at
  pub no-spare : (z : ℕ) → DigitAt s at z → z ≡ 0 → (x : Option ℕ) {b : Bool} → MatchOption x (Stops (drop (at + 1) s)) (λ d. DigitAt s (at + 1) d) → b ≡ is_some x → b ≡ false →
      read_decimal most (drop at s) ≡ capped most (scan z (drop (at + 1) s))
  no-spare z h e x m f g = one-zero z h e (not-some _ _ x m f g)

  pub first-digit : (d : ℕ) → (d ≡ 0 → ⊥) → DigitAt s at d → read_decimal most (drop at s) ≡ capped most (scan d (drop (at + 1) s))
  unfolding after
  first-digit zero l h = absurd (l refl)
  first-digit (suc d) l h = read_at (suc d) h

pub too_large : (s : List ℕ) (most d : ℕ) {o : maybe.Option (ℕ × List ℕ)} (t : List ℕ) → most < d → o ≡ capped most (scan d t) → None ≡ value_answer (length s) o
too_large s most d t h e = past s most d t (scan d t) h refl ∙ ap (value_answer (length s)) (sym e)

-- LITERALS

pub starts-read : (l t : List ℕ) → pointwise eqb l (take (length l) t) ≡ true → read_literal l t ≡ some (drop (length l) t)
unfolding read_literal
starts-read [] t h = refl
starts-read (c ∷ cs) [] h = absurd (true≢false (sym h))
starts-read (c ∷ cs) (b ∷ t) h = go (eqb c b) refl (starts-read cs t)
  where
    go : (e : Bool) → eqb c b ≡ e → (pointwise eqb cs (take (length cs) t) ≡ true → read_literal cs t ≡ some (drop (length cs) t)) →
        read_literal (c ∷ cs) (b ∷ t) ≡ some (drop (length (c ∷ cs)) (b ∷ t))
    go true e ih = rw e (ih (rw e at h))
    go false e ih = absurd (true≢false (sym (rw e at h)))

pub other-lost : (l t : List ℕ) → pointwise eqb l (take (length l) t) ≡ false → read_literal l t ≡ none
unfolding read_literal
other-lost [] t h = absurd (true≢false h)
other-lost (c ∷ cs) [] h = refl
other-lost (c ∷ cs) (b ∷ t) h = go (eqb c b) refl (other-lost cs t)
  where
    go : (e : Bool) → eqb c b ≡ e → (pointwise eqb cs (take (length cs) t) ≡ false → read_literal cs t ≡ none) → read_literal (c ∷ cs) (b ∷ t) ≡ none
    go true e ih = rw e (ih (rw e at h))
    go false e ih = rw e

-- a part of the text, from `at` on, begins with the literal or not
module _ (l s : List ℕ) (at : ℕ) {x : Bool} (e : x ≡ starts_with eqb (take (length s - at) (drop at s)) l) where
  whole-rest : x ≡ pointwise eqb l (take (length l) (drop at s))
  whole-rest = e ∙ ap (λ (t : List ℕ). starts_with eqb t l) (take_all (length s - at) (drop at s) (omega (arith, length-drop at s)))

  pub literal-past : x ≡ true → at + length l ≤ length s → Some (at + length l) ≡ literal_answer (length s) (read_literal l (drop at s))
  literal-past f h =
      rw (starts-read l (drop at s) (sym whole-rest ∙ f))
      (ap Some (let v : at + length l ≡ length s - length (drop (length l) (drop at s)) = omega (arith, length-drop (length l) (drop at s), length-drop at s) in v))

  pub literal-missing : x ≡ false → None ≡ literal_answer (length s) (read_literal l (drop at s))
  literal-missing f = rw (other-lost l (drop at s) (sym whole-rest ∙ f))

-- HEXADECIMAL

pub hex-begin : (len : ℕ) (o : maybe.Option (List ℕ × List ℕ)) → hex_answer len o ≡ hex_more len 0 o
hex-begin len none = refl
hex-begin len (some r) = ap (λ (m : ℕ). Some (m, len - length r.1)) (sym (zero-add (length r.0)))

-- a byte that is a digit is one of them
pub digit-some : (o : maybe.Option ℕ) → (o ≡ none → ⊥) → (d : ℕ) × (o ≡ some d)
digit-some none n = absurd (n refl)
digit-some (some d) n = (d, refl)

newline-reads : (a : ℕ) (t : List ℕ) → a ≡ 10 → read_hex (a ∷ t) ≡ give [] t
unfolding read_hex
newline-reads a [] e = rw (eq-eqb a 10 e)
newline-reads a (b ∷ t) e = rw (eq-eqb a 10 e)

one-reads : (a : ℕ) → (a ≡ 10 → ⊥) → read_hex (a ∷ []) ≡ none
unfolding read_hex
one-reads a n = rw (ne_eqb a 10 n)

first-none : (a b : ℕ) (t : List ℕ) → (a ≡ 10 → ⊥) → hex_digit_of a ≡ none → read_hex (a ∷ b ∷ t) ≡ none
unfolding read_hex byte_of
first-none a b t n e = rw (ne_eqb a 10 n, e)

second_none : (a b d : ℕ) (t : List ℕ) → (a ≡ 10 → ⊥) → hex_digit_of a ≡ some d → hex_digit_of b ≡ none → read_hex (a ∷ b ∷ t) ≡ none
unfolding read_hex byte_of
second_none a b d t n e f = rw (ne_eqb a 10 n, e, f)

both_some : (a b d f : ℕ) (t : List ℕ) → (a ≡ 10 → ⊥) → hex_digit_of a ≡ some d → hex_digit_of b ≡ some f →
    read_hex (a ∷ b ∷ t) ≡ (read_hex t >>= λ r. give ((d * 16 + f) ∷ r.0) r.1)
unfolding read_hex byte_of
both_some a b d f t n e g = rw (ne_eqb a 10 n, e, g)

one_more : (len n x : ℕ) (o : maybe.Option (List ℕ × List ℕ)) → hex_more len n (o >>= λ r. give (x ∷ r.0) r.1) ≡ hex_more len (n + 1) o
one_more len n x none = refl
one_more len n x (some r) = ap (λ (m : ℕ). Some (m, len - length r.1)) (let v : n + suc (length r.0) ≡ n + 1 + length r.0 = omega arith in v)

-- the bytes as the code reads them: a at i, b at i + 1
module _ (s : List ℕ) (n i : ℕ) where
  pub hex-ended : length s ≤ i → None ≡ hex_more (length s) n (read_hex (drop i s))
  unfolding read_hex
  hex-ended h = rw (drop_of_length-le s {i = i} h)

  module _ (a : ℕ) (h : i < length s) (first : a ≡ get_or s i 0) where
    pub hex-line : a ≡ 10 → Some (n, i + 1) ≡ hex_more (length s) n (read_hex (drop i s))
    hex-line e =
        rw (drop-cons-one s i h) (rw (newline-reads (get_or s i 0) (drop (i + 1) s) (sym first ∙ e))
        (λ k. Some (let v : n ≡ n + 0 = omega arith in v k, let v : i + 1 ≡ length s - length (drop (i + 1) s) = omega (arith, length-drop (i + 1) s) in v k)))

    module _ (e : a ≡ 10 → ⊥) where
      inside-line : get_or s i 0 ≡ 10 → ⊥
      inside-line q = e (first ∙ q)

      pub hex-short : length s ≤ i + 1 → None ≡ hex_more (length s) n (read_hex (drop i s))
      hex-short k = rw (drop-cons-one s i h, drop_of_length-le s {i = i + 1} k) (rw (one-reads (get_or s i 0) inside-line))

      two : i + 1 < length s → drop i s ≡ get_or s i 0 ∷ get_or s (i + 1) 0 ∷ drop (i + 2) s
      two k =
          drop-cons-one s i h
          ∙ ap (λ (t : List ℕ). get_or s i 0 ∷ t) (drop-cons-one s (i + 1) k ∙ ap (λ (m : ℕ). get_or s (i + 1) 0 ∷ drop m s) (let v : i + 1 + 1 ≡ i + 2 = omega arith in v))

      module _ (b : ℕ) (k : i + 1 < length s) (second : b ≡ get_or s (i + 1) 0) where
        pub hex-first : hex_digit_of a ≡ none → None ≡ hex_more (length s) n (read_hex (drop i s))
        hex-first f = rw (two k) (rw (first-none (get_or s i 0) (get_or s (i + 1) 0) (drop (i + 2) s) inside-line (ap hex_digit_of (sym first) ∙ f)))

        module _ (is : HexDigit a) where
          first-is : (d : ℕ) × (hex_digit_of (get_or s i 0) ≡ some d)
          first-is = let x = digit-some (hex_digit_of a) is in (x.0, ap hex_digit_of (sym first) ∙ x.1)

          pub hex-second : hex_digit_of b ≡ none → None ≡ hex_more (length s) n (read_hex (drop i s))
          hex-second g = rw (two k) (rw (second_none (get_or s i 0) (get_or s (i + 1) 0) first-is.0 (drop (i + 2) s) inside-line first-is.1 (ap hex_digit_of (sym second) ∙ g)))

          pub hex-next : HexDigit b → hex_more (length s) n (read_hex (drop i s)) ≡ hex_more (length s) (n + 1) (read_hex (drop (i + 2) s))
          hex-next is' =
              let y = digit-some (hex_digit_of b) is' in
              rw (two k)
              (rw (both_some (get_or s i 0) (get_or s (i + 1) 0) first-is.0 y.0 (drop (i + 2) s) inside-line first-is.1 (ap hex_digit_of (sym second) ∙ y.1))
              (one_more (length s) n (first-is.0 * 16 + y.0) (read_hex (drop (i + 2) s))))

-- which bytes are hexadecimal digits, and which are none
pub not-hex : (b : ℕ) → b < 48 → hex_digit_of b ≡ none
unfolding hex_digit_of
not-hex b h = rw (lt-leb 48 b h, lt-leb 97 b (omega arith))

pub not-hex-between : (b : ℕ) → 57 < b → b < 97 → hex_digit_of b ≡ none
unfolding hex_digit_of
not-hex-between b h k = rw (le-leb 48 b (omega arith), lt-leb b 57 h, lt-leb 97 b k)

pub not-hex-above : (b : ℕ) → 102 < b → hex_digit_of b ≡ none
unfolding hex_digit_of
not-hex-above b h = rw (le-leb 48 b (omega arith), lt-leb b 57 (omega arith), le-leb 97 b (omega arith), lt-leb b 102 h)

-- a digit is of one of two kinds
pub hex-from-48 : (b : ℕ) → HexDigit b → 48 ≤ b
hex-from-48 b d = go (leb 48 b) refl
  where
    go : (p : Bool) → leb 48 b ≡ p → 48 ≤ b
    go true e = leb-true 48 b e
    go false e = absurd (d (not-hex b (leb-false 48 b e)))

pub hex-from-97 : (b : ℕ) → HexDigit b → 57 < b → 97 ≤ b
hex-from-97 b d h = go (leb 97 b) refl
  where
    go : (p : Bool) → leb 97 b ≡ p → 97 ≤ b
    go true e = leb-true 97 b e
    go false e = absurd (d (not-hex-between b h (leb-false 97 b e)))

hex-to-102 : (b : ℕ) → HexDigit b → b ≤ 102
hex-to-102 b d = go (leb b 102) refl
  where
    go : (p : Bool) → leb b 102 ≡ p → b ≤ 102
    go true e = leb-true b 102 e
    go false e = absurd (d (not-hex-above b (leb-false b 102 e)))

-- the values of digits
pub hex-low-value : (b : ℕ) → HexDigit b → b ≤ 57 → hex_digit_of b ≡ some (b - 48)
unfolding hex_digit_of
hex-low-value b d h = rw (le-leb 48 b (hex-from-48 b d), le-leb b 57 h)

pub hex-high-value : (b : ℕ) → HexDigit b → 57 < b → hex_digit_of b ≡ some (b - 97 + 10)
unfolding hex_digit_of
hex-high-value b d h =
    let l : 97 ≤ b = hex-from-97 b d h in
    rw (le-leb 48 b (omega arith), lt-leb b 57 h, le-leb 97 b l, le-leb b 102 (hex-to-102 b d)) (ap some (let v : b - 87 ≡ b - 97 + 10 = omega arith in v))

pub digit-hex : (b : ℕ) → 48 ≤ b → b ≤ 57 → HexDigit b
unfolding hex_digit_of
digit-hex b l h =
    let w : hex_digit_of b ≡ some (b - 48) = rw (le-leb 48 b l, le-leb b 57 h) in
    λ e. none-not-some (sym e ∙ w)

pub letter-hex : (b : ℕ) → 97 ≤ b → b ≤ 102 → HexDigit b
unfolding hex_digit_of
letter-hex b l h =
    let w : hex_digit_of b ≡ some (b - 87) = rw (le-leb 48 b (omega arith), lt-leb b 57 (omega arith), le-leb 97 b l, le-leb b 102 h) in
    λ e. none-not-some (sym e ∙ w)

-- a block of them, j looked at: `all` says that they are
pub record Looking (s : List ℕ) (at j : ℕ) (all : Bool) : Type 0 where
  pub room : at + 32 ≤ length s
  pub few : j ≤ 32
  pub each : all ≡ true → (k : ℕ) → k < j → HexDigit (get_or s (at + k) 0)

pub looking-next : {s : List ℕ} {at j : ℕ} {all r : Bool} → Looking s at j all → j < 32 → (r ≡ true → HexDigit (get_or s (at + j) 0)) → Looking s at (j + 1) (all && r)
looking-next {s} {at} {j} {all} {r} v less d =
    record {
      room = v.room;
      few = omega arith;
      each = λ z k h. let w = and_both all r z in elim (ℕ_discrete k j) [
        | yes e ↦ subst (λ (x : ℕ). HexDigit (get_or s (at + x) 0)) (sym e) (d w.1)
        | no n ↦ v.each w.0 k (omega (arith, n))
      ];
    }

block-long : {s : List ℕ} {at n j : ℕ} {all : Bool} → Looking s at j all → n ≡ 32 → length (take n (drop at s)) ≡ n
block-long {s} {at} {n} v e = length-take-le n (drop at s) (omega (arith, length-drop at s, v.room, e))

-- the block as a part of the text, and what the test tells of its byte
pub looking-on : {s : List ℕ} {at n j : ℕ} {all : Bool} (r : Bool) → Looking s at j all → n ≡ 32 → j < length (take n (drop at s)) →
    MatchBool r (HexDigit (get_or (take n (drop at s)) j 0)) (hex_digit_of (get_or (take n (drop at s)) j 0) ≡ none) → Looking s at (j + 1) (all && r)
looking-on {s} {at} {n} {j} true v e h d =
    let q : get_or (take n (drop at s)) j 0 ≡ get_or s (at + j) 0 = get_or-take n (drop at s) j 0 (omega (arith, h, block-long v e)) ∙ get_or-drop at s j 0 in
    looking-next v (omega (arith, e, h, block-long v e)) (λ z. subst HexDigit q d)
looking-on false v e h d = looking-next v (omega (arith, e, h, block-long v e)) (λ z. absurd (true≢false (sym z)))

-- a digit is no line's end
digit-inside : (b : ℕ) → HexDigit b → b ≡ 10 → ⊥
unfolding hex_digit_of
digit-inside b d e = d (ap hex_digit_of e)

-- the digits of k bytes are passed
hex-skip : (s : List ℕ) (n i k : ℕ) → i + 2 * k ≤ length s → ((j : ℕ) → j < 2 * k → HexDigit (get_or s (i + j) 0))
    → hex_more (length s) n (read_hex (drop i s)) ≡ hex_more (length s) (n + k) (read_hex (drop (i + 2 * k) s))
hex-skip s n i zero room each =
    let e : n ≡ n + 0 = omega arith in
    let f : i ≡ i + 2 * 0 = omega arith in
    λ j. hex_more (length s) (e j) (read_hex (drop (f j) s))
hex-skip s n i (suc k) room each =
    let e : n + 1 + k ≡ n + suc k = omega arith in
    let f : i + 2 + 2 * k ≡ i + 2 * suc k = omega arith in
    let here : HexDigit (get_or s i 0) = subst (λ (x : ℕ). HexDigit (get_or s x 0)) (let z : i + 0 ≡ i = omega arith in z) (each 0 (omega arith)) in
    hex-next s n i (get_or s i 0) (omega arith) refl (digit-inside (get_or s i 0) here) (get_or s (i + 1) 0) (omega arith) refl here (each 1 (omega arith))
    ∙ hex-skip s (n + 1) (i + 2) k (omega arith) (λ j h. subst (λ (x : ℕ). HexDigit (get_or s x 0)) (let z : i + (2 + j) ≡ i + 2 + j = omega arith in z) (each (2 + j) (omega arith)))
    ∙ (λ j. hex_more (length s) (e j) (read_hex (drop (f j) s)))

module _ (s : List ℕ) (at : ℕ) where
  run-named : (r c d : ℕ) → HexRun s at r c → c ≡ d → HexRun s at r d
  run-named r c d w e = subst (HexRun s at r) e w

  pub run_none : HexRun s at at ((at - at) / 2)
  run_none = run-named at 0 ((at - at) / 2) (record { far = omega arith; reads = hex-begin (length s) (read_hex (drop at s)) }) (omega arith)

  pub run_more : (i : ℕ) → HexRun s at i ((i - at) / 2) → HexDigits s i 32 → HexRun s at (i + 32) ((i + 32 - at) / 2)
  run_more i w d =
      let n : ℕ = (i - at) / 2 in
      run-named (i + 32) (n + 16) ((i + 32 - at) / 2)
      (record { far = omega (arith, w.far); reads = w.reads ∙ hex-skip s n i 16 d.within d.each })
      (omega (arith, w.far))

  pub run-counted : (r c : ℕ) (x : Option (ℕ × ℕ)) → HexRun s at r c → x ≡ hex_more (length s) c (read_hex (drop r s)) → x ≡ hex_answer (length s) (read_hex (drop at s))
  run-counted r c x w e = e ∙ sym w.reads

-- FROM ANSWERS BACK TO READERS

drop-back : (s : List ℕ) (m : ℕ) → drop m s ≡ drop (length s - length (drop m s)) s
drop-back s m = go (leb m (length s)) refl
  where
    go : (b : Bool) → leb m (length s) ≡ b → drop m s ≡ drop (length s - length (drop m s)) s
    go true e = ap (λ (k : ℕ). drop k s) (let v : m ≡ length s - length (drop m s) = omega (arith, leb-true m (length s) e, length-drop m s) in v)
    go false e =
        let h : length s ≤ m = omega (arith, leb-false m (length s) e) in
        drop_of_length-le s {i = m} h ∙ sym (drop_of_length-le s {i = length s - length (drop m s)} (omega (arith, length-drop m s)))

-- what is left of a text is a part of it, up to its end
pub suffix : (p rest s : List ℕ) (at : ℕ) → p ++ rest ≡ drop at s → rest ≡ drop (length s - length rest) s
suffix p rest s at e =
    let d : rest ≡ drop (at + length p) s = sym (drop-append_seam p rest) ∙ ap (drop (length p)) e ∙ drop-drop (length p) at s in
    d ∙ drop-back s (at + length p) ∙ ap (λ (t : List ℕ). drop (length s - length t) s) (sym d)

-- both parts of an answer
pub both-same : {A B : Type 0} {a c : A} {b d : B} → ◌≡◌ {A = Option (A × B)} (Some (a, b)) (Some (c, d)) → (a ≡ c) × (b ≡ d)
both-same {A} {B} {a} {c} {b} {d} e =
    let p : ◌≡◌ {A = A × B} (a, b) (c, d) = cc in
    (ap (λ (x : A × B). x.0) p, ap (λ (x : A × B). x.1) p)

pub answer-some : {A : Type 0} (s : List ℕ) (o : maybe.Option (A × List ℕ)) {r : Option (A × ℕ)} (n : A) (k : ℕ) → r ≡ value_answer (length s) o → r ≡ Some (n, k) →
    (rest : List ℕ) × (o ≡ give n rest) × (k ≡ length s - length rest)
answer-some s none n k e f = absurd (let z : ◌≡◌ {A = ℕ} 0 1 = cc in omega arith)
answer-some {A} s (some x) {r} n k e f =
    let v = both-same (sym e ∙ f) in
    (x.1, ap (λ (m : A). give m x.1) v.0, sym v.1)

pub answer-none : {A : Type 0} (s : List ℕ) (o : maybe.Option (A × List ℕ)) {r : Option (A × ℕ)} → r ≡ value_answer (length s) o → r ≡ None → o ≡ none
answer-none s none e f = refl
answer-none s (some x) e f = absurd (let z : ◌≡◌ {A = ℕ} 0 1 = cc in omega arith)

-- a number that the code has read, with what is left after it
pub decimal-found : (s : List ℕ) (most at : ℕ) {r : Option (ℕ × ℕ)} (n k : ℕ) → r ≡ value_answer (length s) (read_decimal most (drop at s)) → r ≡ Some (n, k) →
    (read_decimal most (drop at s) ≡ give n (drop k s)) × (k ≤ length s)
decimal-found s most at n k e f =
    let x = answer-some s (read_decimal most (drop at s)) n k e f in
    let b = decimal-back most (drop at s) n x.0 x.1 in
    (x.1 ∙ ap (give n) (suffix (decimal n) x.0 s at b.1 ∙ ap (λ (m : ℕ). drop m s) (sym x.2)), omega (arith, x.2))

module _ (s : List ℕ) (most end at n k : ℕ) (e : read_decimal most (drop at s) ≡ give n (drop k s)) where
  pub field-short : length s ≤ k → None ≡ value_answer (length s) (read_field most end (drop at s))
  unfolding read_field read_literal
  field-short h = rw e (rw (drop_of_length-le s {i = k} h))

  pub field-other : k < length s → (get_or s k 0 ≡ end → ⊥) → None ≡ value_answer (length s) (read_field most end (drop at s))
  unfolding read_field read_literal
  field-other h f = rw e (rw (drop-cons-one s k h) (rw (ne_eqb end (get_or s k 0) (λ x. f (sym x)))))

  pub field-there : k < length s → get_or s k 0 ≡ end → Some (n, k + 1) ≡ value_answer (length s) (read_field most end (drop at s))
  unfolding read_field read_literal
  field-there h f =
      rw e (rw (drop-cons-one s k h) (rw (eq-eqb end (get_or s k 0) (sym f))
      (ap (λ (m : ℕ). Some (n, m)) (let v : k + 1 ≡ length s - length (drop (k + 1) s) = omega (arith, length-drop (k + 1) s) in v))))

pub field-none : (s : List ℕ) (most end at : ℕ) → read_decimal most (drop at s) ≡ none → None ≡ value_answer (length s) (read_field most end (drop at s))
unfolding read_field
field-none s most end at e = rw e

-- a value of a right format that the code has read, with what is left after it
pub value-found : {A : Type 0} {f : Format A} {good : A → Type 0} → Right f good → (s : List ℕ) (at : ℕ) {r : Option (A × ℕ)} (a : A) (k : ℕ) →
    r ≡ value_answer (length s) (f.read (drop at s)) → r ≡ Some (a, k) → (f.read (drop at s) ≡ give a (drop k s)) × (k ≤ length s) × good a
value-found {A} {f} right s at a k e g =
    let x = answer-some s (f.read (drop at s)) a k e g in
    let b = right.back (drop at s) a x.0 x.1 in
    (x.1 ∙ ap (give a) (suffix (f.print a) x.0 s at b.1 ∙ ap (λ (m : ℕ). drop m s) (sym x.2)), omega (arith, x.2), b.0)

-- a field that the code has read
pub field_found : (s : List ℕ) (width end at : ℕ) {r : Option (ℕ × ℕ)} (n k : ℕ) → digit_of end ≡ none →
    r ≡ value_answer (length s) ((number width end).read (drop at s)) → r ≡ Some (n, k) →
    ((number width end).read (drop at s) ≡ give n (drop k s)) × (k ≤ length s) × (n < 2 ^ width)
field_found s width end at n k stop e f = value-found (number-right width end stop) s at n k e f

-- bytes that the code has counted
pub hex-found : (s : List ℕ) (at : ℕ) {r : Option (ℕ × ℕ)} (n k : ℕ) → r ≡ hex_answer (length s) (read_hex (drop at s)) → r ≡ Some (n, k) →
    (bs : List ℕ) × (read_hex (drop at s) ≡ give bs (drop k s)) × (length bs ≡ n) × (k ≤ length s)
hex-found s at {r} n k e f = go (read_hex (drop at s)) refl e
  where
    go : (o : maybe.Option (List ℕ × List ℕ)) → read_hex (drop at s) ≡ o → r ≡ hex_answer (length s) o →
        (bs : List ℕ) × (read_hex (drop at s) ≡ give bs (drop k s)) × (length bs ≡ n) × (k ≤ length s)
    go none q g = absurd (let z : ◌≡◌ {A = ℕ} 0 1 = cc in omega arith)
    go (some x) q g =
        let v = both-same (sym g ∙ f) in
        let v0 : length x.0 ≡ n = v.0 in
        let v1 : length s - length x.1 ≡ k = v.1 in
        let b : Bytes x.0 × (hex x.0 ++ (newline ∷ x.1) ≡ drop at s) = hex-back (drop at s) x.0 x.1 q in
        let t : x.1 ≡ drop (length s - length x.1) s =
        suffix (hex x.0 ++ (newline ∷ [])) x.1 s at (append_assoc (hex x.0) (newline ∷ []) x.1 ∙ b.1) in
        (x.0, q ∙ ap (give x.0) (t ∙ ap (λ (m : ℕ). drop m s) v1), v0, omega arith)

pub hex-missing : (s : List ℕ) (at : ℕ) {r : Option (ℕ × ℕ)} → r ≡ hex_answer (length s) (read_hex (drop at s)) → r ≡ None → read_hex (drop at s) ≡ none
hex-missing s at {r} e f = go (read_hex (drop at s)) refl e
  where
    go : (o : maybe.Option (List ℕ × List ℕ)) → read_hex (drop at s) ≡ o → r ≡ hex_answer (length s) o → read_hex (drop at s) ≡ none
    go none q g = q
    go (some x) q g = absurd (let z : ◌≡◌ {A = ℕ} 0 1 = cc in omega arith)

-- a literal that the code has found
pub literal-found : (cs s : List ℕ) (at : ℕ) {r : Option ℕ} (k : ℕ) → r ≡ literal_answer (length s) (read_literal cs (drop at s)) → r ≡ Some k →
    (read_literal cs (drop at s) ≡ some (drop k s)) × (k ≤ length s)
literal-found cs s at {r} k e f = go (read_literal cs (drop at s)) refl e
  where
    go : (o : maybe.Option (List ℕ)) → read_literal cs (drop at s) ≡ o → r ≡ literal_answer (length s) o → (read_literal cs (drop at s) ≡ some (drop k s)) × (k ≤ length s)
    go none q g = absurd (let z : ◌≡◌ {A = ℕ} 0 1 = cc in omega arith)
    go (some x) q g =
        let v : Some (length s - length x) ≡ Some k = sym g ∙ f in
        let v1 : length s - length x ≡ k = cc in
        (q ∙ ap some (suffix cs x s at (literal-back cs (drop at s) x q) ∙ ap (λ (m : ℕ). drop m s) v1), omega arith)

pub literal-lost : (cs s : List ℕ) (at : ℕ) {r : Option ℕ} → r ≡ literal_answer (length s) (read_literal cs (drop at s)) → r ≡ None → read_literal cs (drop at s) ≡ none
literal-lost cs s at {r} e f = go (read_literal cs (drop at s)) refl e
  where
    go : (o : maybe.Option (List ℕ)) → read_literal cs (drop at s) ≡ o → r ≡ literal_answer (length s) o → read_literal cs (drop at s) ≡ none
    go none q g = q
    go (some x) q g = absurd (let z : ◌≡◌ {A = ℕ} 0 1 = cc in omega arith)

-- one of two literals, as each was found or not
module _ (c d s : List ℕ) (at : ℕ) {r : Option ℕ} (first : r ≡ literal_answer (length s) (read_literal c (drop at s))) where
  pub either-yes : (k : ℕ) → r ≡ Some k → Some (true, k) ≡ value_answer (length s) ((either c d).read (drop at s))
  unfolding either
  either-yes k f = let p = literal-found c s at k first f in rw p.0 (ap (λ (m : ℕ). Some (true, m)) (let v : k ≡ length s - length (drop k s) = omega (arith, length-drop k s, p.1) in v))

  module _ (lost : r ≡ None) {q : Option ℕ} (second : q ≡ literal_answer (length s) (read_literal d (drop at s))) where
    pub either-no : (k : ℕ) → q ≡ Some k → Some (false, k) ≡ value_answer (length s) ((either c d).read (drop at s))
    unfolding either
    either-no k f =
        let p = literal-found d s at k second f in
        rw (literal-lost c s at first lost, p.0) (ap (λ (m : ℕ). Some (false, m)) (let v : k ≡ length s - length (drop k s) = omega (arith, length-drop k s, p.1) in v))

    pub either-none : q ≡ None → None ≡ value_answer (length s) ((either c d).read (drop at s))
    unfolding either
    either-none f = rw (literal-lost c s at first lost, literal-lost d s at second f)
