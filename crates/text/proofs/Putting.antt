-- The laws of `putText`.
use Prim.Native.Nat.{ℕ, ◌+◌, ◌*◌, ◌/◌, ◌%◌, ◌≤◌, ◌<◌}
use Rattle.word.proofs.PutLaws.{put-none, length-put, put_one, put-put, take_put}
use Rattle.word.specs.Put.{put}
use Rattle.text.specs.Put.{put_text}
use Rattle.text.specs.Inner.Puts.{Puts}
use Rattle.text.specs.Text.{decimal, hex, hex_digit}
use Rattle.text.proofs.Laws.{decimal-one, decimal-more, decimal-length-one, decimal-length-more, hex-length}
use mathlib.Core.List.{List, [], ◌∷◌, ◌++◌, append_assoc}
use mathlib.Core.Path.{◌≡◌, refl, sym, ap, ◌∙◌}
use lib.ListN.{length, get_or, take, drop, set, length-append, length-set}
use lib.Seq.{length-take-le, take-suc, take_all, drop-drop}
use native.Mathlib.Omega.{arith}
use native.Mathlib.Numerals.{add-one}
use native.Mathlib.Nat.{add-zero, zero-add}
use borrow.Rule.Slice.PartMut.{put_mid}

pub put-length : (out : List ℕ) (at : ℕ) (t : List ℕ) → at + length t ≤ length out → length (put_text out at t) ≡ length out
put-length out at t h = length-put out at t (length t) h (omega arith)

pub taken_back : (out t : List ℕ) → take (length t) (put_text out 0 t) ≡ t
taken_back out t = ap (λ (n : ℕ). take n (put_text out 0 t)) (sym (zero-add (length t))) ∙ take_put out 0 t (length t) (omega arith) (omega arith) ∙ take_all (length t) t (omega arith)

pub put-nothing : (out : List ℕ) (at : ℕ) → put_text out at [] ≡ out
put-nothing out at = sym (put-none out at [])

-- a part of the list that a copy filled
pub put-mid-put : (out t : List ℕ) {u : List ℕ} (at k : ℕ) → k ≡ length t → u ≡ t → put_mid at k out u ≡ put_text out at t
unfolding put
put-mid-put out t at k e f =
    rw (f, e, take_all (length t) t (omega arith))
    (ap (λ (x : List ℕ). take at out ++ (t ++ x)) (drop-drop (length t) at out) ∙ sym (append_assoc (take at out) t (drop (at + length t) out)))

-- two calls, one after the other
pub puts-puts : {a b c : List ℕ} {at k r : ℕ} {t u : List ℕ} → Puts a b at k t → Puts b c k r u → at ≤ length a → Puts a c at r (t ++ u)
puts-puts {a} {b} {c} {at} {k} {r} {t} {u} p q h =
    record {
      next = omega (arith, p.next, q.next, length-append t u);
      out =
          q.out ∙ ap (λ (x : List ℕ). put_text x k u) p.out ∙ ap (λ (n : ℕ). put_text (put_text a at t) n u) p.next
          ∙ put-put a at t u h;
    }

-- the first digit of a number, and one more
pub puts_one : (out : List ℕ) (at n : ℕ) → n < 10 → at + length (decimal n) ≤ length out → Puts out (set out at (48 + n)) at (at + 1) (decimal n)
puts_one out at n h k =
    let e : decimal n ≡ (48 + n) ∷ [] = decimal-one n h in
    rw e (record { next = refl; out = put_one out at (48 + n) (omega (arith, decimal-length-one n h)) })

pub puts-byte : (out : List ℕ) (at b : ℕ) → at < length out → Puts out (set out at b) at (at + 1) (b ∷ [])
puts-byte out at b h = record { next = refl; out = put_one out at b h }

pub puts-length : {a b : List ℕ} {at r : ℕ} {t : List ℕ} → Puts a b at r t → at + length t ≤ length a → length b ≡ length a
puts-length {a} {b} {at} {r} {t} p h = ap length p.out ∙ put-length a at t h

pub puts-more : (out mid : List ℕ) (at k n : ℕ) → 10 ≤ n → at + length (decimal n) ≤ length out → Puts out mid at k (decimal (n / 10)) →
    Puts out (set mid k (48 + n % 10)) at (k + 1) (decimal n)
puts-more out mid at k n h l p =
    let d = decimal-length-more n h in
    let m : length mid ≡ length out = puts-length p (omega arith) in
    rw (decimal-more n h)
    (puts-puts p (puts-byte mid k (48 + n % 10) (omega (arith, p.next))) (omega arith))

pub puts_none : (out : List ℕ) (at : ℕ) → at ≤ length out → Puts out out at at []
puts_none out at h = record { next = sym (add-zero at); out = sym (put-nothing out at) }

pub puts-at : {a b : List ℕ} {at r q : ℕ} {t u : List ℕ} → Puts a b at r t → r ≡ q → t ≡ u → Puts a b at q u
puts-at {a} {b} {at} {r} {q} {t} {u} p e f = rw (← e, ← f) p

take-one : (l : List ℕ) (i : ℕ) → i < length l → take i l ++ (get_or l i 0 ∷ []) ≡ take (i + 1) l
take-one l i h = rw (add-one i) (sym (take-suc l i 0 h))

length-take-at : (l : List ℕ) (i : ℕ) → i ≤ length l → length (take i l) ≡ i
length-take-at l i h = length-take-le i l h

-- one byte more of a literal
pub literal-step : (a b : List ℕ) (at i : ℕ) (l : List ℕ) → i < length l → at + length l ≤ length a → length b ≡ length a → Puts a b at (at + i) (take i l) →
    Puts a (set b (at + i) (get_or l i 0)) at (at + (i + 1)) (take (i + 1) l)
literal-step a b at i l h k m p =
    puts-at
    (puts-puts p (puts-byte b (at + i) (get_or l i 0) (omega arith)) (omega arith))
    (omega arith)
    (take-one l i h)

pub hex-append : (xs ys : List ℕ) → hex (xs ++ ys) ≡ hex xs ++ hex ys
unfolding hex
hex-append [] ys = refl
hex-append (x ∷ xs) ys = rw (hex-append xs ys)

-- there is room for one byte more
pub hex-room : {a b : List ℕ} {at k : ℕ} (i : ℕ) (l : List ℕ) → i < length l → at + length (hex l) ≤ length a → Puts a b at k (hex (take i l)) → k + 1 < length a
hex-room i l h f p = omega (arith, hex-length l, hex-length (take i l), length-take-at l i (omega arith), p.next)

-- one byte more in hexadecimal
pub hex-step : (a b : List ℕ) (at k i : ℕ) (l : List ℕ) → i < length l → at + length (hex l) ≤ length a → length b ≡ length a → Puts a b at k (hex (take i l)) →
    Puts a (set (set b k (hex_digit (get_or l i 0 / 16))) (k + 1) (hex_digit (get_or l i 0 % 16))) at (k + 2) (hex (take (i + 1) l))
unfolding hex
hex-step a b at k i l h f m p =
    let x : ℕ = get_or l i 0 in
    let n : length (hex (take i l)) ≡ 2 * i = hex-length (take i l) ∙ ap (λ (j : ℕ). 2 * j) (length-take-at l i (omega arith)) in
    let o = p.next in
    let b1 : List ℕ = set b k (hex_digit (x / 16)) in
    let one : Puts b b1 k (k + 1) (hex_digit (x / 16) ∷ []) = puts-byte b k (hex_digit (x / 16)) (omega (arith, hex-length l)) in
    let two : Puts b1 (set b1 (k + 1) (hex_digit (x % 16))) (k + 1) (k + 1 + 1) (hex_digit (x % 16) ∷ []) =
    puts-byte b1 (k + 1) (hex_digit (x % 16)) (rw (length-set b k (hex_digit (x / 16))) (omega (arith, hex-length l))) in
    puts-at
    (puts-puts p (puts-puts one two (omega (arith, hex-length l))) (omega arith))
    (omega arith)
    (sym (hex-append (take i l) (x ∷ [])) ∙ ap hex (take-one l i h))

pub puts-all : {a b : List ℕ} {at r : ℕ} (i : ℕ) (l : List ℕ) → Puts a b at r (take i l) → i ≡ length l → Puts a b at r l
puts-all i l p e = puts-at p refl (take_all i l (omega arith))

pub puts-all-hex : {a b : List ℕ} {at r : ℕ} (i : ℕ) (l : List ℕ) → Puts a b at r (hex (take i l)) → i ≡ length l → Puts a b at r (hex l)
puts-all-hex i l p e = puts-at p refl (ap hex (take_all i l (omega arith)))

-- the first i elements of a list that is copied one by one
pub record Copies (a b : List ℕ) (at i : ℕ) (l : List ℕ) : Type 0 where
  pub within : i ≤ length l
  pub size : length b ≡ length a
  pub puts : Puts a b at (at + i) (take i l)

pub copies-begin : (a : List ℕ) (at n : ℕ) (l : List ℕ) → at + n ≤ length a → Copies a a at 0 l
copies-begin a at n l h = record { within = omega arith; size = refl; puts = puts-at (puts_none a at (omega arith)) (sym (add-zero at)) refl }

pub copies-next : {a b : List ℕ} {at i : ℕ} {l : List ℕ} (n v : ℕ) → Copies a b at i l → i < n → n ≡ length l → at + n ≤ length a → v ≡ get_or l i 0 →
    Copies a (set b (at + i) v) at (i + 1) l
copies-next {a} {b} {at} {i} {l} n v p h e room f =
    rw f (record {
      within = omega arith;
      size = length-set b (at + i) (get_or l i 0) ∙ p.size;
      puts = literal-step a b at i l (omega arith) (omega arith) p.size p.puts;
    })

pub copies-stop : {a b : List ℕ} {at i : ℕ} {l : List ℕ} (n : ℕ) → Copies a b at i l → n ≤ i → n ≡ length l → Puts a b at (at + i) l
copies-stop {a} {b} {at} {i} {l} n p h e = puts-all i l p.puts (omega (arith, p.within))
