-- The laws of length lines: a line is read exactly if it is the decimal of its number, of at most 18 digits, and byte 10. Assumes nothing.
use Prim.Native.Nat.{ℕ, zero, suc, ◌+◌, ◌-◌, ◌*◌, ◌/◌, ◌%◌, ◌≤◌, ◌<◌}
use mathlib.Core.Bool.{Bool, true, false, ◌&&◌, ◌||◌}
use mathlib.Core.List.{List, [], ◌∷◌, ◌++◌, append_assoc}
use mathlib.Core.Path.{◌≡◌, refl, sym, ap, ◌∙◌}
use native.Mathlib.Omega.{arith}
use lib.Dec.{eqb, ltb, leb}
use lib.ListN.{length}
use borrow.Author.Tests.{lt-ltb, le-ltb, le-leb, lt-leb, ne_eqb, ltb-true, ltb-false, leb-true, eqb-true}
use Rattle.word.proofs.Bools.{and_both, or_right}
use Rattle.text.specs.Text.{newline, decimal}
use Rattle.text.proofs.Laws.{decimal-one, decimal-more, decimal-snoc, decimal-length-one, decimal-length-more}
use Rattle.shelves.specs.Shelf.{LengthLine, length_of, no_length, is_digit, length_line}

-- ---- one byte, by the tests of the code

pub line-none : (n : ℕ) (t : List ℕ) → length_line 0 n (10 ∷ t) ≡ no_length
unfolding length_line
line-none n t = refl

pub line-end : (k n : ℕ) (t : List ℕ) → 0 < k → length_line k n (10 ∷ t) ≡ length_of n t
unfolding length_line
line-end k n t h = rw (lt-ltb 0 k h)

pub line_low : (k n b : ℕ) (t : List ℕ) → (b ≡ 10 → ⊥) → b < 48 → length_line k n (b ∷ t) ≡ no_length
unfolding length_line
line_low k n b t e h = rw (ne_eqb b 10 e, lt-leb 48 b h)

pub line-high : (k n b : ℕ) (t : List ℕ) → 57 < b → length_line k n (b ∷ t) ≡ no_length
unfolding length_line
line-high k n b t h = rw (ne_eqb b 10 (λ e. omega arith), le-leb 48 b (omega arith), lt-leb b 57 h)

pub line-long : (k n b : ℕ) (t : List ℕ) → 48 ≤ b → b ≤ 57 → 18 ≤ k → length_line k n (b ∷ t) ≡ no_length
unfolding length_line
line-long k n b t l h e = rw (ne_eqb b 10 (λ e. omega arith), le-leb 48 b l, le-leb b 57 h, le-ltb k 18 e)

pub line-spare : (k n b : ℕ) (t : List ℕ) → 48 ≤ b → b ≤ 57 → k < 18 → (eqb k 0 || ltb 0 n) ≡ false → length_line k n (b ∷ t) ≡ no_length
unfolding length_line
line-spare k n b t l h e f = rw (ne_eqb b 10 (λ e. omega arith), le-leb 48 b l, le-leb b 57 h, lt-ltb k 18 e, f)

pub line-digit : (k n b : ℕ) (t : List ℕ) → 48 ≤ b → b ≤ 57 → k < 18 → (eqb k 0 || ltb 0 n) ≡ true → length_line k n (b ∷ t) ≡ length_line (suc k) (n * 10 + (b - 48)) t
unfolding length_line
line-digit k n b t l h e f = rw (ne_eqb b 10 (λ e. omega arith), le-leb 48 b l, le-leb b 57 h, lt-ltb k 18 e, f)

-- ---- the line that a number has is read

-- a digit d
digit : (k n d : ℕ) (t : List ℕ) → d < 10 → k < 18 → (eqb k 0 || ltb 0 n) ≡ true → length_line k n ((48 + d) ∷ t) ≡ length_line (suc k) (n * 10 + d) t
digit k n d t h e f =
    line-digit k n (48 + d) t (omega arith) (omega arith) e f ∙ ap (λ (x : ℕ). length_line (suc k) x t) (let v : n * 10 + (48 + d - 48) ≡ n * 10 + d = omega arith in v)

-- after its digits
digits-read : (most n : ℕ) (t : List ℕ) → n < most → length (decimal n) ≤ 18 → length_line 0 0 (decimal n ++ t) ≡ length_line (length (decimal n)) n t
digits-read zero n t h s = absurd (omega arith)
digits-read (suc most) n t h s = go (λ l u z. digits-read most (n / 10) u (omega arith) z) (ltb n 10) refl
  where
    go : (10 ≤ n → (u : List ℕ) → length (decimal (n / 10)) ≤ 18 → length_line 0 0 (decimal (n / 10) ++ u) ≡ length_line (length (decimal (n / 10))) (n / 10) u) →
        (b : Bool) → ltb n 10 ≡ b → length_line 0 0 (decimal n ++ t) ≡ length_line (length (decimal n)) n t
    go ih true e =
        let l : n < 10 = ltb-true n 10 e in
        rw (decimal-one n l) (digit 0 0 n t l (omega arith) refl ∙ ap (λ (x : ℕ). length_line 1 x t) (let v : 0 * 10 + n ≡ n = omega arith in v))
    go ih false e =
        let l : 10 ≤ n = ltb-false n 10 e in
        let k : ℕ = length (decimal (n / 10)) in
        let z : length (decimal n) ≡ k + 1 = decimal-length-more n l in
        let m : n % 10 < 10 = omega arith in
        let p : 0 < n / 10 = omega arith in
        ap (λ (x : List ℕ). length_line 0 0 (x ++ t)) (decimal-more n l)
        ∙ ap (length_line 0 0) (append_assoc (decimal (n / 10)) ((48 + n % 10) ∷ []) t)
        ∙ ih l ((48 + n % 10) ∷ t) (omega arith)
        ∙ digit k (n / 10) (n % 10) t m (omega arith) (or_right (eqb k 0) (ltb 0 (n / 10)) (lt-ltb 0 (n / 10) p))
        ∙ ap (λ (x : ℕ). length_line (suc k) x t) (let v : n / 10 * 10 + n % 10 ≡ n = omega arith in v)
        ∙ ap (λ (x : ℕ). length_line x n t) (let v : suc k ≡ length (decimal n) = omega arith in v)

decimal-some : (n : ℕ) → 0 < length (decimal n)
decimal-some n = go (ltb n 10) refl
  where
    go : (b : Bool) → ltb n 10 ≡ b → 0 < length (decimal n)
    go true e = omega (arith, decimal-length-one n (ltb-true n 10 e))
    go false e = omega (arith, decimal-length-more n (ltb-false n 10 e))

-- FORTH
pub line-forth : (n : ℕ) (rest : List ℕ) → length (decimal n) ≤ 18 → length_line 0 0 (decimal n ++ (newline ∷ rest)) ≡ length_of n rest
line-forth n rest h =
    digits-read (suc n) n (newline ∷ rest) (omega arith) h ∙ line-end (length (decimal n)) n rest (decimal-some n)

-- ---- what is read is the line of its number

never : {n : ℕ} {rest : List ℕ} {x : LengthLine} → x ≡ no_length → x ≡ length_of n rest → ⊥
never e f = let z : ◌≡◌ {A = ℕ} 0 1 = cc in omega arith

-- what a byte did, by cases
data Byte (k n b : ℕ) (t : List ℕ) : Type 0 where
  ends : b ≡ 10 → length_line k n (b ∷ t) ≡ length_of n t → Byte k n b t
  goes : 48 ≤ b → b ≤ 57 → k < 18 → (eqb k 0 || ltb 0 n) ≡ true → length_line k n (b ∷ t) ≡ length_line (suc k) (n * 10 + (b - 48)) t → Byte k n b t
  fails : length_line k n (b ∷ t) ≡ no_length → Byte k n b t

by_byte : (k n b : ℕ) (t : List ℕ) → Byte k n b t
unfolding length_line
by_byte k n b t = go (eqb b newline && ltb 0 k) refl (is_digit b && ltb k 18 && (eqb k 0 || ltb 0 n)) refl
  where
    go : (x : Bool) → (eqb b newline && ltb 0 k) ≡ x → (y : Bool) → (is_digit b && ltb k 18 && (eqb k 0 || ltb 0 n)) ≡ y → Byte k n b t
    go true e y f = ends (eqb-true b 10 (and_both (eqb b newline) (ltb 0 k) e).0) (rw e)
    go false e true f =
        let p = and_both (is_digit b && ltb k 18) (eqb k 0 || ltb 0 n) f in
        let q = and_both (is_digit b) (ltb k 18) p.0 in
        let r = and_both (leb 48 b) (leb b 57) q.0 in
        goes (leb-true 48 b r.0) (leb-true b 57 r.1) (ltb-true k 18 q.1) p.1 (rw (e, f))
    go false e false f = fails (rw (e, f))

-- after digits that spelled n
back : (k n : ℕ) (t : List ℕ) (m : ℕ) (rest : List ℕ) → 1 ≤ n → length_line k n t ≡ length_of m rest → decimal n ++ t ≡ decimal m ++ (newline ∷ rest)
unfolding length_line
back k n [] m rest h e = let z : ◌≡◌ {A = ℕ} 0 1 = cc in absurd (omega arith)
back k n (b ∷ t) m rest h e = go (λ d w. back (suc k) (n * 10 + d) t m rest (omega arith) w) (by_byte k n b t)
  where
    go : ((d : ℕ) → length_line (suc k) (n * 10 + d) t ≡ length_of m rest → decimal (n * 10 + d) ++ t ≡ decimal m ++ (newline ∷ rest)) → Byte k n b t → decimal n ++ (b ∷ t) ≡ decimal m ++ (newline ∷ rest)
    go ih (ends x f) =
        let p : n ≡ m = cc in
        let q : t ≡ rest = cc in
        λ j. decimal (p j) ++ (x j ∷ q j)
    go ih (goes l u s z f) =
        let d : ℕ = b - 48 in
        let v : 48 + d ≡ b = omega arith in
        ap (λ (x : ℕ). decimal n ++ (x ∷ t)) (sym v)
        ∙ sym (append_assoc (decimal n) ((48 + d) ∷ []) t)
        ∙ ap (λ (x : List ℕ). x ++ t) (sym (decimal-snoc n d h (omega arith)))
        ∙ ih d (sym f ∙ e)
    go ih (fails f) = absurd (never f e)

-- after a zero
back-zero : (t : List ℕ) (m : ℕ) (rest : List ℕ) → length_line 1 0 t ≡ length_of m rest → 48 ∷ t ≡ decimal m ++ (newline ∷ rest)
unfolding length_line
back-zero [] m rest e = let z : ◌≡◌ {A = ℕ} 0 1 = cc in absurd (omega arith)
back-zero (b ∷ t) m rest e = go (by_byte 1 0 b t)
  where
    go : Byte 1 0 b t → 48 ∷ b ∷ t ≡ decimal m ++ (newline ∷ rest)
    go (ends x f) =
        let p : 0 ≡ m = cc in
        let q : t ≡ rest = cc in
        (λ j. 48 ∷ x j ∷ q j) ∙ rw (← p, decimal-one 0 (omega arith))
    go (goes l u s z f) = let y : ◌≡◌ {A = ℕ} 0 1 = cc in absurd (omega arith)
    go (fails f) = absurd (never f e)

-- BACK
pub line-back : (t : List ℕ) (m : ℕ) (rest : List ℕ) → length_line 0 0 t ≡ length_of m rest → t ≡ decimal m ++ (newline ∷ rest)
unfolding length_line
line-back [] m rest e = let z : ◌≡◌ {A = ℕ} 0 1 = cc in absurd (omega arith)
line-back (b ∷ t) m rest e = go (by_byte 0 0 b t)
  where
    more : (d : ℕ) → d < 10 → length_line 1 d t ≡ length_of m rest → (48 + d) ∷ t ≡ decimal m ++ (newline ∷ rest)
    more zero h f = back-zero t m rest f
    more (suc d) h f = ap (λ (x : List ℕ). x ++ t) (sym (decimal-one (suc d) h)) ∙ back 1 (suc d) t m rest (omega arith) f

    go : Byte 0 0 b t → b ∷ t ≡ decimal m ++ (newline ∷ rest)
    go (ends x f) =
        let y : length_line 0 0 (b ∷ t) ≡ no_length = ap (λ (i : ℕ). length_line 0 0 (i ∷ t)) x ∙ line-none 0 t in
        absurd (never y e)
    go (goes l u s z f) =
        let d : ℕ = b - 48 in
        let v : 48 + d ≡ b = omega arith in
        let w : 0 * 10 + d ≡ d = omega arith in
        ap (λ (x : ℕ). x ∷ t) (sym v) ∙ more d (omega arith) (ap (λ (x : ℕ). length_line 1 x t) (sym w) ∙ sym f ∙ e)
    go (fails f) = absurd (never f e)
