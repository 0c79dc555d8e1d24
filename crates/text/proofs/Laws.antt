-- The laws of specs/Text.antt and specs/Format.antt.
use Prim.Native.Nat.{ℕ, zero, suc, ◌+◌, ◌-◌, ◌*◌, ◌/◌, ◌%◌, ◌^◌, ◌≤◌, ◌<◌}
use Rattle.text.specs.Text.{Bytes, newline, digits, decimal, hex_digit, comma, hex, read_literal, All}
use Rattle.text.specs.Reading.{named, Reader, ◌>>=◌, give, digit_of, ends, scan, capped, after, read_decimal, hex_digit_of, byte_of, read_hex, read_field}
use Rattle.text.specs.Inner.Answer.{Stops}
use Rattle.std.specs.Prelude.{if◌then◌else◌}
use Rattle.word.proofs.Bools.{and_both}
use Rattle.text.specs.Format.{Format, number, bytes_line, after_literal, or_else, either, always, pair, times, mapped, read_all}
use Rattle.text.specs.Inner.Right.{Right}
use native.Mathlib.Nat.{pow-suc, div-lt_iff_lt-mul}
use mathlib.Core.List.{List, [], ◌∷◌, ◌++◌, append_assoc, flat_map}
use mathlib.Core.Bool.{Bool, true, false, ◌&&◌}
use mathlib.Core.Option.{Option, none, some}
use mathlib.Core.Path.{◌≡◌, refl, sym, ap, ◌∙◌}
use mathlib.Core.Logic.{◌⊎◌, inl, inr, ⊎_elim}
use lib.Dec.{ltb, leb, eqb}
use lib.ListN.{length, length-append}
use lib.Pow.{le_ones, lt_of_le_ones}
use borrow.Author.Tests.{lt-ltb, le-ltb, le-leb, lt-leb, eq-eqb, ne_eqb, ltb-true, ltb-false, leb-true, eqb-true}
use native.Mathlib.Omega.{arith}

-- Options

pub none-not-some : {A : Type 0} {a : A} → none ≡ some a → ⊥
none-not-some e = let z : ◌≡◌ {A = ℕ} 0 1 = cc in omega arith

pub bind-some : {A B : Type 0} (o : Option A) (f : A → Option B) (b : B) → (o >>= f) ≡ some b → (a : A) × (o ≡ some a) × (f a ≡ some b)
bind-some none f b e = absurd (none-not-some e)
bind-some (some a) f b e = (a, refl, e)

-- what a name, or else something other, gives
pub by_name : {A X : Type 0} (o : Option (List ℕ)) (fields : Reader A) (other : Option (A × List ℕ)) (c : A) (rest : List ℕ) → named o fields other ≡ give c rest
    → ((u : List ℕ) → o ≡ some u → fields u ≡ give c rest → X) → (other ≡ give c rest → X) → X
by_name none fields other c rest e f g = g e
by_name (some u) fields other c rest e f g = f u refl e

-- a test that let a value through
pub passed : {A : Type 0} (t : Bool) (o : Option A) (a : A) → (if t then o else none) ≡ some a → (t ≡ true) × (o ≡ some a)
passed true o a e = (refl, e)
passed false o a e = absurd (none-not-some e)

-- Digits: any two bounds above the number give the same digits

digits-fuel : (f g n : ℕ) → n < f → n < g → digits f n ≡ digits g n
unfolding digits
digits-fuel zero g n p q = absurd (omega arith)
digits-fuel (suc f) zero n p q = absurd (omega arith)
digits-fuel (suc f) (suc g) n p q = go (λ h. digits-fuel f g (n / 10) (omega arith) (omega arith)) (ltb n 10) refl
  where
    go : (10 ≤ n → digits f (n / 10) ≡ digits g (n / 10)) → (b : Bool) → ltb n 10 ≡ b → digits (suc f) n ≡ digits (suc g) n
    go ih true e = rw e
    go ih false e = rw (e, ih (ltb-false n 10 e))

pub decimal-one : (n : ℕ) → n < 10 → decimal n ≡ (48 + n) ∷ []
unfolding decimal digits
decimal-one n h = rw (lt-ltb n 10 h)

pub decimal-more : (n : ℕ) → 10 ≤ n → decimal n ≡ decimal (n / 10) ++ ((48 + n % 10) ∷ [])
unfolding decimal digits
decimal-more n h = rw (le-ltb n 10 h) (ap (λ (l : List ℕ). l ++ ((48 + n % 10) ∷ [])) (digits-fuel n (suc (n / 10)) (n / 10) (omega arith) (omega arith)))

-- one more digit
pub decimal-snoc : (n d : ℕ) → 1 ≤ n → d < 10 → decimal (n * 10 + d) ≡ decimal n ++ ((48 + d) ∷ [])
decimal-snoc n d h k =
    decimal-more (n * 10 + d) (omega arith)
    ∙ ap (λ (m : ℕ). decimal m ++ ((48 + (n * 10 + d) % 10) ∷ [])) (let e : (n * 10 + d) / 10 ≡ n = omega arith in e)
    ∙ ap (λ (m : ℕ). decimal n ++ ((48 + m) ∷ [])) (let e : (n * 10 + d) % 10 ≡ d = omega arith in e)

-- a byte that is a digit
pub digit-of-digit : (d : ℕ) → d < 10 → digit_of (48 + d) ≡ some d
unfolding digit_of
digit-of-digit d h =
    rw (le-leb 48 (48 + d) (omega arith), le-leb (48 + d) 57 (omega arith))
    (ap some (let e : 48 + d - 48 ≡ d = omega arith in e))

pub some_inj : {A : Type 0} {a b : A} → some a ≡ some b → a ≡ b
some_inj e = cc

pub digit-of-some : (b d : ℕ) → digit_of b ≡ some d → (d < 10) × (b ≡ 48 + d)
unfolding digit_of
digit-of-some b d e =
    let p : ((leb 48 b && leb b 57) ≡ true) × (some (b - 48) ≡ some d) = passed (leb 48 b && leb b 57) (some (b - 48)) d e in
    let q : (leb 48 b ≡ true) × (leb b 57 ≡ true) = and_both (leb 48 b) (leb b 57) p.0 in
    let l : 48 ≤ b = leb-true 48 b q.0 in
    let u : b ≤ 57 = leb-true b 57 q.1 in
    let v : b - 48 ≡ d = some_inj p.1 in
    (omega arith, omega arith)

-- the bytes that end a number are no digits

pub no-comma : digit_of comma ≡ none
unfolding digit_of
no-comma = refl

pub no-newline : digit_of newline ≡ none
unfolding digit_of
no-newline = refl

-- Scanning

pub scan-none : (n b : ℕ) (t : List ℕ) → digit_of b ≡ none → scan n (b ∷ t) ≡ (n, b ∷ t)
unfolding scan
scan-none n b t s = rw (s, scan)

pub scan-some : (n b d : ℕ) (t : List ℕ) → digit_of b ≡ some d → scan n (b ∷ t) ≡ scan (n * 10 + d) t
unfolding scan
scan-some n b d t s = rw (s, scan)

pub scan-stops : (n : ℕ) (t : List ℕ) → Stops t → scan n t ≡ (n, t)
unfolding scan Stops
scan-stops n [] s = refl
scan-stops n (b ∷ t) s = scan-none n b t s

-- what was scanned was printed
pub scan-back : (n : ℕ) (t : List ℕ) → 1 ≤ n → decimal (scan n t).0 ++ (scan n t).1 ≡ decimal n ++ t
unfolding scan
scan-back n [] h = refl
scan-back n (b ∷ t) h = go (λ d k. scan-back (n * 10 + d) t (omega arith)) (digit_of b) refl
  where
    go : ((d : ℕ) → d < 10 → decimal (scan (n * 10 + d) t).0 ++ (scan (n * 10 + d) t).1 ≡ decimal (n * 10 + d) ++ t) →
        (o : Option ℕ) → digit_of b ≡ o → decimal (scan n (b ∷ t)).0 ++ (scan n (b ∷ t)).1 ≡ decimal n ++ (b ∷ t)
    go ih none e = rw (scan-none n b t e)
    go ih (some d) e =
        let p : (d < 10) × (b ≡ 48 + d) = digit-of-some b d e in
        rw (scan-some n b d t e) (ih d p.0 ∙ rw (decimal-snoc n d h p.0, p.1) (append_assoc (decimal n) ((48 + d) ∷ []) t))

-- where a scan ends no digit stands, and the number has not fallen
pub scan-ends : (n : ℕ) (t : List ℕ) → Stops (scan n t).1
unfolding scan Stops
scan-ends n [] = tt
scan-ends n (b ∷ t) = go (λ d. scan-ends (n * 10 + d) t) (digit_of b) refl
  where
    go : ((d : ℕ) → Stops (scan (n * 10 + d) t).1) → (o : Option ℕ) → digit_of b ≡ o → Stops (scan n (b ∷ t)).1
    go ih none e = rw (scan-none n b t e) e
    go ih (some d) e = rw (scan-some n b d t e) (ih d)

pub scan-grows : (n : ℕ) (t : List ℕ) → n ≤ (scan n t).0
unfolding scan
scan-grows n [] = omega arith
scan-grows n (b ∷ t) = go (λ d. scan-grows (n * 10 + d) t) (digit_of b) refl
  where
    go : ((d : ℕ) → n * 10 + d ≤ (scan (n * 10 + d) t).0) → (o : Option ℕ) → digit_of b ≡ o → n ≤ (scan n (b ∷ t)).0
    go ih none e = rw (scan-none n b t e) (omega arith)
    go ih (some d) e = rw (scan-some n b d t e) (omega (arith, ih d))

-- the number of a text that begins with a digit other than 0
scan-first : List ℕ → ℕ × List ℕ
scan-first [] = (0, [])
scan-first (b ∷ t) = scan (b - 48) t

-- scanning what was printed goes on after it
scan-forth : (most n : ℕ) (t : List ℕ) → n < most → 1 ≤ n → scan-first (decimal n ++ t) ≡ scan n t
unfolding scan-first
scan-forth zero n t k h = absurd (omega arith)
scan-forth (suc most) n t k h = go (λ l u. scan-forth most (n / 10) u (omega arith) (omega arith)) (ltb n 10) refl
  where
    go : (10 ≤ n → (u : List ℕ) → scan-first (decimal (n / 10) ++ u) ≡ scan (n / 10) u) →
        (b : Bool) → ltb n 10 ≡ b → scan-first (decimal n ++ t) ≡ scan n t
    go ih true e = rw (decimal-one n (ltb-true n 10 e)) (ap (λ (m : ℕ). scan m t) (let v : 48 + n - 48 ≡ n = omega arith in v))
    go ih false e =
        let l : 10 ≤ n = ltb-false n 10 e in
        let m : n % 10 < 10 = omega arith in
        rw (decimal-more n l, append_assoc (decimal (n / 10)) ((48 + n % 10) ∷ []) t)
        (ih l ((48 + n % 10) ∷ t) ∙ scan-some (n / 10) (48 + n % 10) (n % 10) t (digit-of-digit (n % 10) m)
        ∙ ap (λ (x : ℕ). scan x t) (let v : n / 10 * 10 + n % 10 ≡ n = omega arith in v))

-- the first digit of a number from 1 on
lead : (most n : ℕ) → n < most → 1 ≤ n → (d : ℕ) × (l : List ℕ) × (d < 9) × (decimal n ≡ (48 + suc d) ∷ l)
lead zero n k h = absurd (omega arith)
lead (suc most) n k h = go (λ l. lead most (n / 10) (omega arith) (omega arith)) (ltb n 10) refl
  where
    go : (10 ≤ n → (d : ℕ) × (l : List ℕ) × (d < 9) × (decimal (n / 10) ≡ (48 + suc d) ∷ l)) →
        (b : Bool) → ltb n 10 ≡ b → (d : ℕ) × (l : List ℕ) × (d < 9) × (decimal n ≡ (48 + suc d) ∷ l)
    go ih true e =
        let h10 : n < 10 = ltb-true n 10 e in
        (n - 1, [], omega arith, decimal-one n h10 ∙ ap (λ (m : ℕ). (48 + m) ∷ []) (let v : n ≡ suc (n - 1) = omega arith in v))
    go ih false e =
        let l : 10 ≤ n = ltb-false n 10 e in
        let r : (d : ℕ) × (l : List ℕ) × (d < 9) × (decimal (n / 10) ≡ (48 + suc d) ∷ l) = ih l in
        (r.0, r.1 ++ ((48 + n % 10) ∷ []), r.2, decimal-more n l ∙ ap (λ (x : List ℕ). x ++ ((48 + n % 10) ∷ [])) r.3)

pub ends-stops : (t : List ℕ) → Stops t → ends t ≡ true
unfolding Stops ends
ends-stops [] s = refl
ends-stops (b ∷ t) s = rw (s, ends)

stops-ends : (t : List ℕ) → ends t ≡ true → Stops t
unfolding Stops ends
stops-ends [] e = tt
stops-ends (b ∷ t) e = go (digit_of b) refl
  where
    go : (o : Option ℕ) → digit_of b ≡ o → digit_of b ≡ none
    go none p = p
    go (some d) p = let f : ends (b ∷ t) ≡ false = rw (p, ends) in absurd (let z : ◌≡◌ {A = ℕ} 0 1 = cc in omega arith)

pub read-digit : (most b d : ℕ) (t : List ℕ) → digit_of b ≡ some d → read_decimal most (b ∷ t) ≡ after most d t
unfolding read_decimal
read-digit most b d t e = rw e

after-zero : (most : ℕ) (rest : List ℕ) → Stops rest → after most 0 rest ≡ give 0 rest
unfolding after
after-zero most rest s = rw (ends-stops rest s)

after-lead : (most m d : ℕ) (l rest : List ℕ) → suc m ≤ most → Stops rest → decimal (suc m) ≡ (48 + suc d) ∷ l → after most (suc d) (l ++ rest) ≡ give (suc m) rest
unfolding after capped scan-first
after-lead most m d l rest h s r =
    let v : 48 + suc d - 48 ≡ suc d = omega arith in
    let e : scan-first (decimal (suc m) ++ rest) ≡ scan (suc m) rest = scan-forth (suc (suc m)) (suc m) rest (omega arith) (omega arith) in
    let f : scan (48 + suc d - 48) (l ++ rest) ≡ scan (suc m) rest = rw r at e in
    let g : scan (suc d) (l ++ rest) ≡ (suc m, rest) = (rw v at f) ∙ scan-stops (suc m) rest s in
    rw (g, le-leb (suc m) most h)

-- DECIMALS. Printing then reading gives the number back, and the rest of the text
pub decimal-forth : (most n : ℕ) (rest : List ℕ) → n ≤ most → Stops rest → read_decimal most (decimal n ++ rest) ≡ give n rest
decimal-forth most zero rest h s =
    rw (decimal-one 0 (omega arith)) (read-digit most 48 0 rest (digit-of-digit 0 (omega arith)) ∙ after-zero most rest s)
decimal-forth most (suc m) rest h s =
    let r : (d : ℕ) × (l : List ℕ) × (d < 9) × (decimal (suc m) ≡ (48 + suc d) ∷ l) = lead (suc (suc m)) (suc m) (omega arith) (omega arith) in
    rw r.3 (read-digit most (48 + suc r.0) (suc r.0) (r.1 ++ rest) (digit-of-digit (suc r.0) (omega arith)) ∙ after-lead most m r.0 r.1 rest h s r.3)

after-back : (most b : ℕ) (t : List ℕ) (n : ℕ) (rest : List ℕ) (d : ℕ) → d < 10 → b ≡ 48 + d → after most d t ≡ give n rest →
    (n ≤ most) × (decimal n ++ rest ≡ b ∷ t) × Stops rest
unfolding after capped
after-back most b t n rest zero h k f =
    let p : (ends t ≡ true) × (give 0 t ≡ give n rest) = passed (ends t) (give 0 t) (n, rest) f in
    let v : ◌≡◌ {A = ℕ × List ℕ} (0, t) (n, rest) = some_inj p.1 in
    let v0 : 0 ≡ n = ap (λ (x : ℕ × List ℕ). x.0) v in
    let v1 : t ≡ rest = ap (λ (x : ℕ × List ℕ). x.1) v in
    (omega arith, rw (← v0, ← v1, decimal-one 0 (omega arith), k), rw (← v1) (stops-ends t p.0))
after-back most b t n rest (suc d) h k f =
    let p : (leb (scan (suc d) t).0 most ≡ true) × (some (scan (suc d) t) ≡ give n rest) = passed (leb (scan (suc d) t).0 most) (some (scan (suc d) t)) (n, rest) f in
    let v : scan (suc d) t ≡ (n, rest) = some_inj p.1 in
    let v0 : (scan (suc d) t).0 ≡ n = ap (λ (x : ℕ × List ℕ). x.0) v in
    let v1 : (scan (suc d) t).1 ≡ rest = ap (λ (x : ℕ × List ℕ). x.1) v in (
      omega (arith, leb-true (scan (suc d) t).0 most p.0),
      rw (← v0, ← v1, k) (scan-back (suc d) t (omega arith) ∙ rw (decimal-one (suc d) h)),
      rw (← v1) (scan-ends (suc d) t),
    )

-- What was read was printed from just that number, and no digit follows
pub decimal-back : (most : ℕ) (t : List ℕ) (n : ℕ) (rest : List ℕ) → read_decimal most t ≡ give n rest → (n ≤ most) × (decimal n ++ rest ≡ t) × Stops rest
unfolding read_decimal
decimal-back most [] n rest e = absurd (none-not-some e)
decimal-back most (b ∷ t) n rest e =
    let p : (d : ℕ) × (digit_of b ≡ some d) × (after most d t ≡ give n rest) = bind-some (digit_of b) (λ d. after most d t) (n, rest) e in
    let q : (p.0 < 10) × (b ≡ 48 + p.0) = digit-of-some b p.0 p.1 in
    after-back most b t n rest p.0 q.0 q.1 p.2

-- HEXADECIMAL

pub hex-digit-forth : (d : ℕ) → d < 16 → hex_digit_of (hex_digit d) ≡ some d
unfolding hex_digit hex_digit_of
hex-digit-forth d h = go (ltb d 10) refl
  where
    go : (b : Bool) → ltb d 10 ≡ b → hex_digit_of (hex_digit d) ≡ some d
    go true e =
        let l : d < 10 = ltb-true d 10 e in
        rw (e, le-leb 48 (48 + d) (omega arith), le-leb (48 + d) 57 (omega arith)) (ap some (let v : 48 + d - 48 ≡ d = omega arith in v))
    go false e =
        let l : 10 ≤ d = ltb-false d 10 e in
        rw (e, le-leb 48 (87 + d) (omega arith), lt-leb (87 + d) 57 (omega arith), le-leb 97 (87 + d) (omega arith), le-leb (87 + d) 102 (omega arith))
        (ap some (let v : 87 + d - 87 ≡ d = omega arith in v))

-- one of two ways
pub split : {A : Type 0} (t : Bool) (x y a : A) → (if t then x else y) ≡ a → ((t ≡ true) × (x ≡ a)) ⊎ ((t ≡ false) × (y ≡ a))
split true x y a e = inl (refl, e)
split false x y a e = inr (refl, e)

pub hex-digit-back : (b d : ℕ) → hex_digit_of b ≡ some d → (d < 16) × (hex_digit d ≡ b)
unfolding hex_digit_of hex_digit
hex-digit-back b d e =
    ⊎_elim (λ p. first p.0 (some_inj p.1))
    (λ p. second (passed (leb 97 b && leb b 102) (some (b - 87)) d p.1))
    (split (leb 48 b && leb b 57) (some (b - 48)) (if leb 97 b && leb b 102 then some (b - 87) else none) (some d) e)
  where
    first : (leb 48 b && leb b 57) ≡ true → b - 48 ≡ d → (d < 16) × (hex_digit d ≡ b)
    first t v =
        let q : (leb 48 b ≡ true) × (leb b 57 ≡ true) = and_both (leb 48 b) (leb b 57) t in
        let l : 48 ≤ b = leb-true 48 b q.0 in
        let u : b ≤ 57 = leb-true b 57 q.1 in
        (omega arith, rw (lt-ltb d 10 (omega arith)) (omega arith))

    second : ((leb 97 b && leb b 102) ≡ true) × (some (b - 87) ≡ some d) → (d < 16) × (hex_digit d ≡ b)
    second p =
        let q : (leb 97 b ≡ true) × (leb b 102 ≡ true) = and_both (leb 97 b) (leb b 102) p.0 in
        let l : 97 ≤ b = leb-true 97 b q.0 in
        let u : b ≤ 102 = leb-true b 102 q.1 in
        let v : b - 87 ≡ d = some_inj p.1 in
        (omega arith, rw (le-ltb d 10 (omega arith)) (omega arith))

pub byte-forth : (x : ℕ) → x < 256 → byte_of (hex_digit (x / 16)) (hex_digit (x % 16)) ≡ some x
unfolding byte_of
byte-forth x h =
    rw (hex-digit-forth (x / 16) (omega arith), hex-digit-forth (x % 16) (omega arith)) (ap some (let v : x / 16 * 16 + x % 16 ≡ x = omega arith in v))

pub byte-back : (a b x : ℕ) → byte_of a b ≡ some x → (x < 256) × (hex_digit (x / 16) ≡ a) × (hex_digit (x % 16) ≡ b)
unfolding byte_of
byte-back a b x e =
    let p : (u : ℕ) × (hex_digit_of a ≡ some u) × ((hex_digit_of b >>= λ y. some (u * 16 + y)) ≡ some x) = bind-some (hex_digit_of a) (λ u. hex_digit_of b >>= λ y. some (u * 16 + y)) x e in
    let q : (v : ℕ) × (hex_digit_of b ≡ some v) × (some (p.0 * 16 + v) ≡ some x) = bind-some (hex_digit_of b) (λ y. some (p.0 * 16 + y)) x p.2 in
    let w : p.0 * 16 + q.0 ≡ x = some_inj q.2 in
    let f : (p.0 < 16) × (hex_digit p.0 ≡ a) = hex-digit-back a p.0 p.1 in
    let g : (q.0 < 16) × (hex_digit q.0 ≡ b) = hex-digit-back b q.0 q.1 in (
      omega arith,
      ap hex_digit (let v : x / 16 ≡ p.0 = omega arith in v) ∙ f.1,
      ap hex_digit (let v : x % 16 ≡ q.0 = omega arith in v) ∙ g.1,
    )

-- no hexadecimal digit is the line's end
pub hex-digit-above : (d : ℕ) → 48 ≤ hex_digit d
unfolding hex_digit
hex-digit-above d = go (ltb d 10) refl
  where
    go : (b : Bool) → ltb d 10 ≡ b → 48 ≤ hex_digit d
    go true e = rw e (omega arith)
    go false e = rw e (omega arith)

pub hex-forth : (bs rest : List ℕ) → Bytes bs → read_hex (hex bs ++ (newline ∷ rest)) ≡ give bs rest
unfolding hex read_hex
hex-forth [] [] h = refl
hex-forth [] (r ∷ rest) h = refl
hex-forth (x ∷ bs) rest h =
    rw (ne_eqb (hex_digit (x / 16)) 10 (λ e. omega (arith, hex-digit-above (x / 16))), byte-forth x h.0, hex-forth bs rest h.1)

pub hex-back : (t bs rest : List ℕ) → read_hex t ≡ give bs rest → Bytes bs × (hex bs ++ (newline ∷ rest) ≡ t)
unfolding read_hex hex
hex-back [] bs rest e = absurd (none-not-some e)
hex-back (a ∷ []) bs rest e =
    let p : (eqb a 10 ≡ true) × (give [] [] ≡ give bs rest) = passed (eqb a 10) (give [] []) (bs, rest) e in
    let v : ◌≡◌ {A = List ℕ × List ℕ} ([], []) (bs, rest) = some_inj p.1 in
    let v0 : [] ≡ bs = ap (λ (x : List ℕ × List ℕ). x.0) v in
    let v1 : [] ≡ rest = ap (λ (x : List ℕ × List ℕ). x.1) v in
    (rw (← v0) tt, rw (← v0, ← v1, eqb-true a 10 p.0))
hex-back (a ∷ b ∷ t) bs rest e =
    ⊎_elim (λ p. stop p.0 (some_inj p.1))
    (λ p. more (λ cs e. hex-back t cs rest e) p.1)
    (split (eqb a 10) (give [] (b ∷ t)) (byte_of a b >>= λ x. read_hex t >>= λ r. give (x ∷ r.0) r.1) (give bs rest) e)
  where
    stop : eqb a 10 ≡ true → ◌≡◌ {A = List ℕ × List ℕ} ([], b ∷ t) (bs, rest) → Bytes bs × (hex bs ++ (newline ∷ rest) ≡ a ∷ b ∷ t)
    stop k v =
        let v0 : [] ≡ bs = ap (λ (x : List ℕ × List ℕ). x.0) v in
        let v1 : b ∷ t ≡ rest = ap (λ (x : List ℕ × List ℕ). x.1) v in
        (rw (← v0) tt, rw (← v0, ← v1, eqb-true a 10 k))

    more : ((cs : List ℕ) → read_hex t ≡ some (cs, rest) → Bytes cs × (hex cs ++ (newline ∷ rest) ≡ t)) →
        (byte_of a b >>= λ x. read_hex t >>= λ r. give (x ∷ r.0) r.1) ≡ give bs rest → Bytes bs × (hex bs ++ (newline ∷ rest) ≡ a ∷ b ∷ t)
    more ih f =
        let p : (x : ℕ) × (byte_of a b ≡ some x) × ((read_hex t >>= λ r. give (x ∷ r.0) r.1) ≡ give bs rest) = bind-some (byte_of a b) (λ x. read_hex t >>= λ r. give (x ∷ r.0) r.1) (bs, rest) f in
        let q : (r : List ℕ × List ℕ) × (read_hex t ≡ some r) × (give (p.0 ∷ r.0) r.1 ≡ give bs rest) = bind-some (read_hex t) (λ r. give (p.0 ∷ r.0) r.1) (bs, rest) p.2 in
        let v : ◌≡◌ {A = List ℕ × List ℕ} (p.0 ∷ q.0.0, q.0.1) (bs, rest) = some_inj q.2 in
        let v0 : p.0 ∷ q.0.0 ≡ bs = ap (λ (x : List ℕ × List ℕ). x.0) v in
        let v1 : q.0.1 ≡ rest = ap (λ (x : List ℕ × List ℕ). x.1) v in
        let d : (p.0 < 256) × (hex_digit (p.0 / 16) ≡ a) × (hex_digit (p.0 % 16) ≡ b) = byte-back a b p.0 p.1 in
        let i : Bytes q.0.0 × (hex q.0.0 ++ (newline ∷ rest) ≡ t) = ih q.0.0 (q.1 ∙ ap (λ (x : List ℕ). some (q.0.0, x)) v1) in
        (rw (← v0) (d.0, i.0), rw (← v0, d.1, d.2, i.1))

-- LITERALS

pub literal-forth : (cs rest : List ℕ) → read_literal cs (cs ++ rest) ≡ some rest
unfolding read_literal
literal-forth [] rest = refl
literal-forth (c ∷ cs) rest = rw (eq-eqb c c refl) (literal-forth cs rest)

pub literal-back : (cs t rest : List ℕ) → read_literal cs t ≡ some rest → cs ++ rest ≡ t
unfolding read_literal
literal-back [] t rest e = sym (some_inj e)
literal-back (c ∷ cs) [] rest e = absurd (none-not-some e)
literal-back (c ∷ cs) (b ∷ t) rest e =
    let p : (eqb c b ≡ true) × (read_literal cs t ≡ some rest) = passed (eqb c b) (read_literal cs t) rest e in
    rw (eqb-true c b p.0, literal-back cs t rest p.1)

-- FORMATS

pub number-join : (most m n end : ℕ) (t w u rest : List ℕ) → m ≤ most → decimal m ++ w ≡ t → end ∷ u ≡ w → m ≡ n → u ≡ rest →
    (n ≤ most) × ((decimal n ++ (end ∷ [])) ++ rest ≡ t)
number-join most m n end t w u rest h d l v0 v1 =
    (omega arith, append_assoc (decimal n) (end ∷ []) rest ∙ rw (← v1, l, ← v0) d)

-- a byte that ends a number is no digit
pub number-right : (width end : ℕ) → digit_of end ≡ none → Right (number width end) (λ n. n < 2 ^ width)
unfolding number read_field Stops
number-right width end none_of =
    let most : ℕ = 2 ^ width - 1 in
    record {
      forth = λ n rest h.
          rw (append_assoc (decimal n) (end ∷ []) rest, decimal-forth most n (end ∷ rest) (le_ones width h) none_of, literal-forth (end ∷ []) rest);
      back = λ t n rest e.
          let p : (r : ℕ × List ℕ) × (read_decimal most t ≡ some r) × ((read_literal (end ∷ []) r.1 >>= λ u. give r.0 u) ≡ give n rest) =
          bind-some (read_decimal most t) (λ r. read_literal (end ∷ []) r.1 >>= λ u. give r.0 u) (n, rest) e in
          let q : (u : List ℕ) × (read_literal (end ∷ []) p.0.1 ≡ some u) × (give p.0.0 u ≡ give n rest) =
          bind-some (read_literal (end ∷ []) p.0.1) (λ u. give p.0.0 u) (n, rest) p.2 in
          let v : ◌≡◌ {A = ℕ × List ℕ} (p.0.0, q.0) (n, rest) = some_inj q.2 in
          let v0 : p.0.0 ≡ n = ap (λ (x : ℕ × List ℕ). x.0) v in
          let v1 : q.0 ≡ rest = ap (λ (x : ℕ × List ℕ). x.1) v in
          let d : (p.0.0 ≤ most) × (decimal p.0.0 ++ p.0.1 ≡ t) × Stops p.0.1 = decimal-back most t p.0.0 p.0.1 p.1 in
          let l : end ∷ q.0 ≡ p.0.1 = literal-back (end ∷ []) p.0.1 q.0 q.1 in
          let j : (n ≤ most) × ((decimal n ++ (end ∷ [])) ++ rest ≡ t) = number-join most p.0.0 n end t p.0.1 q.0 rest d.0 d.1 l v0 v1 in
          (lt_of_le_ones width j.0, j.1);
    }

pub bytes-line-right : Right bytes_line Bytes
unfolding bytes_line
bytes-line-right =
    record {
      forth = λ bs rest h. rw (append_assoc (hex bs) (newline ∷ []) rest) (hex-forth bs rest h);
      back = λ t bs rest e.
          let p : Bytes bs × (hex bs ++ (newline ∷ rest) ≡ t) = hex-back t bs rest e in
          (p.0, append_assoc (hex bs) (newline ∷ []) rest ∙ p.1);
    }

pub after-literal-right : {A : Type 0} (cs : List ℕ) {f : Format A} {good : A → Type 0} → Right f good → Right (after_literal cs f) good
unfolding after_literal
after-literal-right cs {f} r =
    record {
      forth = λ a rest h. rw (append_assoc cs (f.print a) rest, literal-forth cs (f.print a ++ rest)) (r.forth a rest h);
      back = λ t a rest e.
          let p : (u : List ℕ) × (read_literal cs t ≡ some u) × (f.read u ≡ give a rest) = bind-some (read_literal cs t) (λ u. f.read u) (a, rest) e in
          let b = r.back p.0 a rest p.2 in
          (b.0, append_assoc cs (f.print a) rest ∙ rw b.1 (literal-back cs t p.0 p.1));
    }

-- one literal never begins where the other stands
abbrev pub Apart : (first second : List ℕ) → Type 0
Apart first second = (t : List ℕ) → read_literal first (second ++ t) ≡ none

-- either is good
abbrev pub Any : {A : Type 0} → A → Type 0
Any a = Unit

either-join : (c d t : List ℕ) (b : Bool) (rest : List ℕ) (o : Option (List ℕ)) → read_literal c t ≡ o →
    or_else (o >>= λ u. give true u) (read_literal d t >>= λ u. give false u) ≡ give b rest → (if b then c else d) ++ rest ≡ t
either-join c d t b rest (some u) f e =
    let v : ◌≡◌ {A = Bool × List ℕ} (true, u) (b, rest) = some_inj e in
    rw (← ap (λ (x : Bool × List ℕ). x.0) v, ← ap (λ (x : Bool × List ℕ). x.1) v) (literal-back c t u f)
either-join c d t b rest none f e =
    let p : (u : List ℕ) × (read_literal d t ≡ some u) × (give false u ≡ give b rest) = bind-some (read_literal d t) (λ u. give false u) (b, rest) e in
    let v : ◌≡◌ {A = Bool × List ℕ} (false, p.0) (b, rest) = some_inj p.2 in
    rw (← ap (λ (x : Bool × List ℕ). x.0) v, ← ap (λ (x : Bool × List ℕ). x.1) v) (literal-back d t p.0 p.1)

pub either-right : (first second : List ℕ) → Apart first second → Right (either first second) Any
unfolding either
either-right c d h = record { forth = λ b rest g. there b rest; back = λ t b rest e. (tt, either-join c d t b rest (read_literal c t) refl e) }
  where
    there : (b : Bool) (rest : List ℕ) → (either c d).read ((if b then c else d) ++ rest) ≡ give b rest
    there true rest = rw (literal-forth c rest)
    there false rest = rw (h rest, literal-forth d rest)

pub always-right : {A : Type 0} (a : A) → Right (always a) (λ b. b ≡ a)
unfolding always
always-right {A} a =
    record {
      forth = λ b rest e. rw e;
      back = λ t b rest e.
          let v : ◌≡◌ {A = A × List ℕ} (a, t) (b, rest) = some_inj e in
          (sym (ap (λ (x : A × List ℕ). x.0) v), sym (ap (λ (x : A × List ℕ). x.1) v));
    }

pair-join : {A B : Type 0} (f : Format A) (g : A → Format B) (good : A → Type 0) (fine : A → B → Type 0) (t : List ℕ) (p : A × B) (rest : List ℕ)
    (a : A) (b : B) (m r : List ℕ) →
    ◌≡◌ {A = A × B} (a, b) p → r ≡ rest → good a × (f.print a ++ m ≡ t) → fine a b × ((g a).print b ++ r ≡ m) →
    (good p.0 × fine p.0 p.1) × ((f.print p.0 ++ (g p.0).print p.1) ++ rest ≡ t)
pair-join f g good fine t p rest a b m r v0 v1 h k =
    rw (← v0, ← v1) ((h.0, k.0), append_assoc (f.print a) ((g a).print b) r ∙ rw k.1 h.1)

pub pair-right : {A B : Type 0} {f : Format A} {g : A → Format B} {good : A → Type 0} {fine : A → B → Type 0} →
    Right f good → ((a : A) → Right (g a) (fine a)) → Right (pair f g) (λ p. good p.0 × fine p.0 p.1)
unfolding pair
pair-right {A} {B} {f} {g} {good} {fine} r s =
    record {
      forth = λ p rest h.
          rw (append_assoc (f.print p.0) ((g p.0).print p.1) rest, r.forth p.0 ((g p.0).print p.1 ++ rest) h.0, (s p.0).forth p.1 rest h.1);
      back = λ t p rest e.
          let x : (x : A × List ℕ) × (f.read t ≡ some x) × (((g x.0).read x.1 >>= λ q. give {A = A × B} (x.0, q.0) q.1) ≡ give p rest) =
          bind-some (f.read t) (λ r. (g r.0).read r.1 >>= λ q. give {A = A × B} (r.0, q.0) q.1) (p, rest) e in
          let y : (y : B × List ℕ) × ((g x.0.0).read x.0.1 ≡ some y) × (give {A = A × B} (x.0.0, y.0) y.1 ≡ give p rest) =
          bind-some ((g x.0.0).read x.0.1) (λ q. give {A = A × B} (x.0.0, q.0) q.1) (p, rest) x.2 in
          let v : ◌≡◌ {A = (A × B) × List ℕ} ((x.0.0, y.0.0), y.0.1) (p, rest) = some_inj y.2 in
          let v0 : ◌≡◌ {A = A × B} (x.0.0, y.0.0) p = ap (λ (z : (A × B) × List ℕ). z.0) v in
          let v1 : y.0.1 ≡ rest = ap (λ (z : (A × B) × List ℕ). z.1) v in
          pair-join f g good fine t p rest x.0.0 y.0.0 x.0.1 y.0.1 v0 v1 (r.back t x.0.0 x.0.1 x.1) ((s x.0.0).back x.0.1 y.0.0 y.0.1 y.1);
    }

module _ {A : Type 0} {f : Format A} {good : A → Type 0} (r : Right f good) where
  all-forth : (n : ℕ) (l : List A) (rest : List ℕ) → All good l → length l ≡ n → read_all f.read n (flat_map f.print l ++ rest) ≡ give l rest
  unfolding read_all flat_map
  all-forth zero [] rest h e = refl
  all-forth zero (a ∷ l) rest h e = absurd (omega arith)
  all-forth (suc n) [] rest h e = absurd (omega arith)
  all-forth (suc n) (a ∷ l) rest h e =
      rw (append_assoc (f.print a) (flat_map f.print l) rest, r.forth a (flat_map f.print l ++ rest) h.0, all-forth n l rest h.1 (omega arith))

  all_join : (n : ℕ) (t : List ℕ) (l : List A) (rest : List ℕ) (a : A) (m : List ℕ) (k : List A) (u : List ℕ) →
      a ∷ k ≡ l → u ≡ rest → good a × (f.print a ++ m ≡ t) → (All good k × (length k ≡ n)) × (flat_map f.print k ++ u ≡ m) →
      (All good l × (length l ≡ suc n)) × (flat_map f.print l ++ rest ≡ t)
  unfolding flat_map
  all_join n t l rest a m k u v0 v1 h j =
      rw (← v0, ← v1) (((h.0, j.0.0), omega arith), append_assoc (f.print a) (flat_map f.print k) u ∙ rw j.1 h.1)

  all_back : (n : ℕ) (t : List ℕ) (l : List A) (rest : List ℕ) → read_all f.read n t ≡ give l rest →
      (All good l × (length l ≡ n)) × (flat_map f.print l ++ rest ≡ t)
  unfolding read_all flat_map
  all_back zero t l rest e =
      let v : ◌≡◌ {A = List A × List ℕ} ([], t) (l, rest) = some_inj e in
      let v0 : [] ≡ l = ap (λ (x : List A × List ℕ). x.0) v in
      let v1 : t ≡ rest = ap (λ (x : List A × List ℕ). x.1) v in
      rw (← v0) ((tt, refl), sym v1)
  all_back (suc n) t l rest e =
      let x : (x : A × List ℕ) × (f.read t ≡ some x) × ((read_all f.read n x.1 >>= λ y. give (x.0 ∷ y.0) y.1) ≡ give l rest) =
      bind-some (f.read t) (λ x. read_all f.read n x.1 >>= λ y. give (x.0 ∷ y.0) y.1) (l, rest) e in
      let y : (y : List A × List ℕ) × (read_all f.read n x.0.1 ≡ some y) × (give (x.0.0 ∷ y.0) y.1 ≡ give l rest) =
      bind-some (read_all f.read n x.0.1) (λ y. give (x.0.0 ∷ y.0) y.1) (l, rest) x.2 in
      let v : ◌≡◌ {A = List A × List ℕ} (x.0.0 ∷ y.0.0, y.0.1) (l, rest) = some_inj y.2 in
      all_join n t l rest x.0.0 x.0.1 y.0.0 y.0.1 (ap (λ (z : List A × List ℕ). z.0) v) (ap (λ (z : List A × List ℕ). z.1) v)
      (r.back t x.0.0 x.0.1 x.1) (all_back n x.0.1 y.0.0 y.0.1 y.1)

-- so many values, each of them good
abbrev pub Listed : {A : Type 0} → (A → Type 0) → ℕ → List A → Type 0
Listed good n l = All good l × (length l ≡ n)

pub times-right : {A : Type 0} {f : Format A} {good : A → Type 0} (n : ℕ) → Right f good → Right (times n f) (λ l. All good l × (length l ≡ n))
unfolding times
times-right n r = record { forth = λ l rest h. all-forth r n l rest h.0 h.1; back = λ t l rest e. all_back r n t l rest e }

-- values of another type, one for one where they are good
pub mapped-where : {A B : Type 0} {f : Format A} {good : A → Type 0} (fine : B → Type 0) (to : A → B) (from : B → A) →
    ((b : B) → fine b → good (from b) × (to (from b) ≡ b)) → ((a : A) → good a → fine (to a) × (from (to a) ≡ a)) → Right f good → Right (mapped to from f) fine
unfolding mapped
mapped-where {A} {B} {f} {good} fine to from there again r =
    record {
      forth = λ b rest h. rw (r.forth (from b) rest (there b h).0, (there b h).1);
      back = λ t b rest e.
          let p : (x : A × List ℕ) × (f.read t ≡ some x) × (give (to x.0) x.1 ≡ give b rest) = bind-some (f.read t) (λ r. give (to r.0) r.1) (b, rest) e in
          let v : ◌≡◌ {A = B × List ℕ} (to p.0.0, p.0.1) (b, rest) = some_inj p.2 in
          go t p.0.0 b p.0.1 rest (ap (λ (x : B × List ℕ). x.0) v) (ap (λ (x : B × List ℕ). x.1) v) (r.back t p.0.0 p.0.1 p.1);
    }
  where
    go : (t : List ℕ) (a : A) (b : B) (u rest : List ℕ) → to a ≡ b → u ≡ rest → good a × (f.print a ++ u ≡ t) → fine b × (f.print (from b) ++ rest ≡ t)
    go t a b u rest v0 v1 h = let g = again a h.0 in rw (← v0, g.1, ← v1) (g.0, h.1)

-- everywhere
pub mapped-right : {A B : Type 0} {f : Format A} {good : A → Type 0} (to : A → B) (from : B → A) →
    ((b : B) → to (from b) ≡ b) → ((a : A) → from (to a) ≡ a) → Right f good → Right (mapped to from f) (λ b. good (from b))
mapped-right {A} {B} {f} {good} to from there back-again r =
    mapped-where (λ b. good (from b)) to from (λ b h. (h, there b)) (λ a h. (rw (back-again a) h, back-again a)) r

-- two values with the same text are the same
pub injective : {A : Type 0} {f : Format A} {good : A → Type 0} → Right f good → (a b : A) → good a → good b → f.print a ≡ f.print b → a ≡ b
injective {A} {f} r a b h k e =
    let p : give a [] ≡ give b [] = sym (r.forth a [] h) ∙ ap (λ (t : List ℕ). f.read (t ++ [])) e ∙ r.forth b [] k in
    ap (λ (x : A × List ℕ). x.0) (some_inj p)

-- LENGTHS

pub decimal-length-one : (n : ℕ) → n < 10 → length (decimal n) ≡ 1
decimal-length-one n h = rw (decimal-one n h)

pub decimal-length-more : (n : ℕ) → 10 ≤ n → length (decimal n) ≡ length (decimal (n / 10)) + 1
decimal-length-more n h = rw (decimal-more n h) (length-append (decimal (n / 10)) ((48 + n % 10) ∷ []))

-- a number below a power of ten
pub decimal-length : (k n : ℕ) → n < 10 ^ suc k → length (decimal n) ≤ suc k
decimal-length zero n h = omega (arith, decimal-length-one n (omega arith))
decimal-length (suc k) n h = go (λ l. decimal-length k (n / 10) ((div-lt_iff_lt-mul (omega arith)).1 (rw (pow-suc 10 (suc k)) at h))) (ltb n 10) refl
  where
    go : (10 ≤ n → length (decimal (n / 10)) ≤ suc k) → (b : Bool) → ltb n 10 ≡ b → length (decimal n) ≤ suc (suc k)
    go ih true e = omega (arith, decimal-length-one n (ltb-true n 10 e))
    go ih false e = omega (arith, decimal-length-more n (ltb-false n 10 e), ih (ltb-false n 10 e))

-- a number of 64 bits
pub digits-few : (n : ℕ) → n < 2 ^ 64 → length (decimal n) ≤ 20
digits-few n h = decimal-length 19 n (omega arith)

pub hex-length : (bs : List ℕ) → length (hex bs) ≡ 2 * length bs
unfolding hex
hex-length [] = refl
hex-length (b ∷ bs) = omega (arith, hex-length bs)
