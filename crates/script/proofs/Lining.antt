-- The lines of a text; a call's line is one. Assumes nothing.
use Prim.Native.Nat.{ℕ, zero, suc, ◌+◌, ◌/◌, ◌%◌, ◌≤◌, ◌<◌}
use Rattle.text.specs.Text.{ascii, newline, comma, decimal, hex, line, All}
use Rattle.text.proofs.Laws.{decimal-one, decimal-more, hex-digit-above}
use Rattle.script.specs.Script.{onto, lines, ends_line}
use Rattle.script.specs.Calls.{Call, alloc, take, seal, recycle, call_line}
use Rattle.std.specs.List.{concat}
use mathlib.Core.Bool.{Bool, true, false}
use mathlib.Core.List.{List, [], ◌∷◌, ◌++◌, append_assoc}
use mathlib.Core.Path.{◌≡◌, refl, sym, ap, ◌∙◌}
use lib.Dec.{eqb, ltb}
use lib.ListN.{length, length-append}
use native.Mathlib.Omega.{arith}
use borrow.Author.Tests.{ne_eqb, ltb-true, ltb-false}

-- ---- lines and text

onto-concat : (b : ℕ) (ls : List (List ℕ)) → concat (onto b ls) ≡ b ∷ concat ls
onto-concat b [] = refl
onto-concat b (l ∷ ls) = refl

-- a text is its lines in a row
pub lines-concat : (t : List ℕ) → concat (lines t) ≡ t
unfolding lines
lines-concat [] = refl
lines-concat (b ∷ t) = go (eqb b newline) refl (lines-concat t)
  where
    go : (c : Bool) → eqb b newline ≡ c → concat (lines t) ≡ t → concat (lines (b ∷ t)) ≡ b ∷ t
    go true e ih = rw (e, ih)
    go false e ih = rw e (onto-concat b (lines t) ∙ rw ih)

onto-some : (b : ℕ) (ls : List (List ℕ)) → (l : List ℕ) × (more : List (List ℕ)) × (onto b ls ≡ l ∷ more)
onto-some b [] = (b ∷ [], [], refl)
onto-some b (l ∷ ls) = (b ∷ l, ls, refl)

pub lines-some : (b : ℕ) (t : List ℕ) → (l : List ℕ) × (ls : List (List ℕ)) × (lines (b ∷ t) ≡ l ∷ ls)
unfolding lines
lines-some b t = go (eqb b newline) refl
  where
    go : (c : Bool) → eqb b newline ≡ c → (l : List ℕ) × (ls : List (List ℕ)) × (lines (b ∷ t) ≡ l ∷ ls)
    go true e = (b ∷ [], lines t, rw e)
    go false e = let p = onto-some b (lines t) in (p.0, p.1, rw e p.2)

onto-append : (b : ℕ) (ls more : List (List ℕ)) (l : List ℕ) (ks : List (List ℕ)) → ls ≡ l ∷ ks → onto b (ls ++ more) ≡ onto b ls ++ more
onto-append b ls more l ks e = rw e

-- whole lines before a text are lines before its lines
pub lines-append : (a b : List ℕ) → ends_line a ≡ true → lines (a ++ b) ≡ lines a ++ lines b
unfolding lines ends_line
lines-append [] b e = refl
lines-append (x ∷ []) b e = rw e
lines-append (x ∷ y ∷ t) b e = go (eqb x newline) refl (lines-append (y ∷ t) b e) (lines-some y t)
  where
    go : (c : Bool) → eqb x newline ≡ c → lines ((y ∷ t) ++ b) ≡ lines (y ∷ t) ++ lines b → ((l : List ℕ) × (ls : List (List ℕ)) × (lines (y ∷ t) ≡ l ∷ ls))
        → lines (x ∷ y ∷ t ++ b) ≡ lines (x ∷ y ∷ t) ++ lines b
    go true q ih p = rw q (ap (λ (z : List (List ℕ)). (x ∷ []) ∷ z) ih)
    go false q ih p = rw q (ap (onto x) ih ∙ onto-append x (lines (y ∷ t)) (lines b) p.0 p.1 p.2)

-- ---- texts without the byte 10

abbrev Plain : List ℕ → Type 0
Plain t = All (λ b. b ≡ newline → ⊥) t

lines-first : (body rest : List ℕ) → Plain body → lines (body ++ (newline ∷ rest)) ≡ (body ++ (newline ∷ [])) ∷ lines rest
unfolding lines
lines-first [] rest h = refl
lines-first (b ∷ body) rest h = rw (ne_eqb b newline h.0, lines-first body rest h.1)

plain-append : (a b : List ℕ) → Plain a → Plain b → Plain (a ++ b)
plain-append [] b h k = k
plain-append (x ∷ a) b h k = (h.0, plain-append a b h.1 k)

-- a number has at most `most` digits
plain-digits : (most n : ℕ) → n < most → Plain (decimal n)
plain-digits zero n h = absurd (omega arith)
plain-digits (suc most) n h = go (ltb n 10) refl (λ k. plain-digits most (n / 10) (omega arith))
  where
    go : (b : Bool) → ltb n 10 ≡ b → (10 ≤ n → Plain (decimal (n / 10))) → Plain (decimal n)
    go true e ih = rw (decimal-one n (ltb-true n 10 e)) (λ q. omega arith, tt)
    go false e ih =
        let k : 10 ≤ n = ltb-false n 10 e in
        rw (decimal-more n k) (plain-append (decimal (n / 10)) ((48 + n % 10) ∷ []) (ih k) (λ q. omega arith, tt))

plain-decimal : (n : ℕ) → Plain (decimal n)
plain-decimal n = plain-digits (suc n) n (omega arith)

plain-hex : (bs : List ℕ) → Plain (hex bs)
unfolding hex
plain-hex [] = tt
plain-hex (b ∷ bs) = (λ q. omega (arith, hex-digit-above (b / 16)), (λ q. omega (arith, hex-digit-above (b % 16)), plain-hex bs))

-- ---- the line of fields, and that of a call

plain-line : (fs : List (List ℕ)) → All Plain fs → (body : List ℕ) × (line fs ≡ body ++ (newline ∷ [])) × Plain body
unfolding line
plain-line [] h = ([], refl, tt)
plain-line (f ∷ []) h = (f, refl, h.0)
plain-line (f ∷ g ∷ fs) h =
    let p = plain-line (g ∷ fs) h.1 in
    (f ++ (comma ∷ p.0), rw p.1 (sym (append_assoc f (comma ∷ p.0) (newline ∷ []))), plain-append f (comma ∷ p.0) h.0 (λ q. omega arith, p.2))

plain-alloc : Plain (ascii "alloc")
unfolding ascii
plain-alloc = (λ q. omega arith, (λ q. omega arith, (λ q. omega arith, (λ q. omega arith, (λ q. omega arith, tt)))))

plain-take : Plain (ascii "take")
unfolding ascii
plain-take = (λ q. omega arith, (λ q. omega arith, (λ q. omega arith, (λ q. omega arith, tt))))

plain-seal : Plain (ascii "seal")
unfolding ascii
plain-seal = (λ q. omega arith, (λ q. omega arith, (λ q. omega arith, (λ q. omega arith, tt))))

plain-recycle : Plain (ascii "recycle")
unfolding ascii
plain-recycle = (λ q. omega arith, (λ q. omega arith, (λ q. omega arith, (λ q. omega arith, (λ q. omega arith, (λ q. omega arith, (λ q. omega arith, tt)))))))

plain-call : (c : Call) → (body : List ℕ) × (call_line c ≡ body ++ (newline ∷ [])) × Plain body
unfolding call_line
plain-call (alloc t k bs) = plain-line (ascii "alloc" ∷ decimal t ∷ decimal k ∷ hex bs ∷ []) (plain-alloc, (plain-decimal t, (plain-decimal k, (plain-hex bs, tt))))
plain-call (take x) = plain-line (ascii "take" ∷ decimal x ∷ decimal 0 ∷ [] ∷ []) (plain-take, (plain-decimal x, (plain-decimal 0, (tt, tt))))
plain-call seal = plain-line (ascii "seal" ∷ decimal 0 ∷ decimal 0 ∷ [] ∷ []) (plain-seal, (plain-decimal 0, (plain-decimal 0, (tt, tt))))
plain-call recycle = plain-line (ascii "recycle" ∷ decimal 0 ∷ decimal 0 ∷ [] ∷ []) (plain-recycle, (plain-decimal 0, (plain-decimal 0, (tt, tt))))

pub lines-call : (c : Call) (rest : List ℕ) → lines (call_line c ++ rest) ≡ call_line c ∷ lines rest
lines-call c rest =
    let p = plain-call c in
    rw p.1 (ap lines (append_assoc p.0 (newline ∷ []) rest) ∙ lines-first p.0 rest p.2)

-- a call's line is not empty
pub call_long : (c : Call) → 0 < length (call_line c)
call_long c = let p = plain-call c in rw (p.1, length-append p.0 (newline ∷ [])) (omega arith)
