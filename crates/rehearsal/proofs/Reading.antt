-- A line's text reads as that line, and only its text does; so does a text of lines. Assumes nothing.
use Prim.Native.Nat.{ℕ, zero, suc, ◌^◌, ◌<◌, ◌≤◌}
use Rattle.text.specs.Text.{ascii, comma, newline, line, read_literal, All}
use Rattle.text.specs.Reading.{give, ◌>>=◌}
use Rattle.text.specs.Format.{number, bytes_line, pair}
use Rattle.text.specs.Inner.Right.{Right}
use Rattle.text.proofs.Laws.{none-not-some, bind-some, some_inj, literal-forth, literal-back, number-right, pair-right, by_name, no-comma, no-newline}
use Rattle.script.specs.Reading.{alloc_format}
use Rattle.script.proofs.Reading.{alloc-right}
use Rattle.rehearsal.specs.Lines.{Line, alloc, store, drop, line_text, lines_text, Within}
use Rattle.rehearsal.specs.Reading.{store_format, read_alloc, read_store, read_drop, read_line, read_most, read_lines, is_read, is_text}
use native.Mathlib.Omega.{arith}
use mathlib.Core.Bool.{true, false}
use mathlib.Core.List.{List, [], ◌∷◌, ◌++◌, append_assoc, flat_map}
use mathlib.Core.Option.{Option, none, some}
use mathlib.Core.Path.{◌≡◌, refl, ap, ◌∙◌}
use mathlib.Core.Logic.{◌↔◌}
use lib.ListN.{length, length-append}

abbrev Fields : Type 0
Fields = ℕ × (ℕ × List ℕ)

abbrev Names : Type 0
Names = ℕ × (ℕ × ℕ)

store-right : Right store_format (λ r. (r.0 < 2 ^ 64) × ((r.1.0 < 2 ^ 64) × (r.1.1 < 2 ^ 64)))
unfolding store_format
store-right = pair-right (number-right 64 comma no-comma) λ _. pair-right (number-right 64 comma no-comma) λ _. number-right 64 newline no-newline

-- ---- the lines, as the reader goes through them

alloc-line : (t k : ℕ) (bs : List ℕ) → line_text (alloc t k bs) ≡ ascii "alloc," ++ alloc_format.print (t, (k, bs))
unfolding line_text line ascii alloc_format pair number bytes_line
alloc-line t k bs = simp append_assoc

store_line : (a b o : ℕ) → line_text (store a b o) ≡ ascii "store," ++ store_format.print (a, (b, o))
unfolding line_text line ascii store_format pair number
store_line a b o = simp append_assoc

drop-line : (a : ℕ) → line_text (drop a) ≡ ascii "drop," ++ (number 64 newline).print a
unfolding line_text line ascii number
drop-line a = refl

-- ---- forth

not-alloc : (u : List ℕ) → read_literal (ascii "alloc,") (ascii "store," ++ u) ≡ none
unfolding ascii read_literal
not-alloc u = refl

not-alloc' : (u : List ℕ) → read_literal (ascii "alloc,") (ascii "drop," ++ u) ≡ none
unfolding ascii read_literal
not-alloc' u = refl

not-store : (u : List ℕ) → read_literal (ascii "store,") (ascii "drop," ++ u) ≡ none
unfolding ascii read_literal
not-store u = refl

pub line-forth : (l : Line) (rest : List ℕ) → Within l → read_line (line_text l ++ rest) ≡ give l rest
unfolding read_line read_alloc read_store read_drop
line-forth (alloc t k bs) rest h =
    rw (alloc-line t k bs, append_assoc (ascii "alloc,") (alloc_format.print (t, (k, bs))) rest, literal-forth (ascii "alloc,") (alloc_format.print (t, (k, bs)) ++ rest), alloc-right.forth (t, (k, bs)) rest h)
line-forth (store a b o) rest h =
    let u : List ℕ = store_format.print (a, (b, o)) ++ rest in
    rw (store_line a b o, append_assoc (ascii "store,") (store_format.print (a, (b, o))) rest, not-alloc u, literal-forth (ascii "store,") u, store-right.forth (a, (b, o)) rest h)
line-forth (drop a) rest h =
    let u : List ℕ = (number 64 newline).print a ++ rest in
    rw (drop-line a, append_assoc (ascii "drop,") ((number 64 newline).print a) rest, not-alloc' u, not-store u, literal-forth (ascii "drop,") u, (number-right 64 newline no-newline).forth a rest h)

-- ---- back

module _ (t : List ℕ) (c : Line) (rest : List ℕ) where
  -- the text of another line, with another rest
  same : (d : Line) (more : List ℕ) → give d more ≡ give c rest → Within d → line_text d ++ more ≡ t → Within c × (line_text c ++ rest ≡ t)
  same d more e w l =
      let v0 : d ≡ c = ap (λ (x : Line × List ℕ). x.0) (some_inj e) in
      let v1 : more ≡ rest = ap (λ (x : Line × List ℕ). x.1) (some_inj e) in
      rw (← v0, ← v1) (w, l)

  alloc-back : (u : List ℕ) → read_literal (ascii "alloc,") t ≡ some u → read_alloc u ≡ give c rest → Within c × (line_text c ++ rest ≡ t)
  unfolding read_alloc
  alloc-back u n e =
      let p : (x : Fields × List ℕ) × (alloc_format.read u ≡ some x) × (give (alloc x.0.0 x.0.1.0 x.0.1.1) x.1 ≡ give c rest) =
      bind-some (alloc_format.read u) (λ r. give (alloc r.0.0 r.0.1.0 r.0.1.1) r.1) (c, rest) e in
      let b = alloc-right.back u p.0.0 p.0.1 p.1 in
      same (alloc p.0.0.0 p.0.0.1.0 p.0.0.1.1) p.0.1 p.2 b.0
      (rw (alloc-line p.0.0.0 p.0.0.1.0 p.0.0.1.1) (append_assoc (ascii "alloc,") (alloc_format.print p.0.0) p.0.1 ∙ rw b.1 (literal-back (ascii "alloc,") t u n)))

  store-back : (u : List ℕ) → read_literal (ascii "store,") t ≡ some u → read_store u ≡ give c rest → Within c × (line_text c ++ rest ≡ t)
  unfolding read_store
  store-back u n e =
      let p : (x : Names × List ℕ) × (store_format.read u ≡ some x) × (give (store x.0.0 x.0.1.0 x.0.1.1) x.1 ≡ give c rest) =
      bind-some (store_format.read u) (λ r. give (store r.0.0 r.0.1.0 r.0.1.1) r.1) (c, rest) e in
      let b = store-right.back u p.0.0 p.0.1 p.1 in
      same (store p.0.0.0 p.0.0.1.0 p.0.0.1.1) p.0.1 p.2 b.0
      (rw (store_line p.0.0.0 p.0.0.1.0 p.0.0.1.1) (append_assoc (ascii "store,") (store_format.print p.0.0) p.0.1 ∙ rw b.1 (literal-back (ascii "store,") t u n)))

  drop-back : (u : List ℕ) → read_literal (ascii "drop,") t ≡ some u → read_drop u ≡ give c rest → Within c × (line_text c ++ rest ≡ t)
  unfolding read_drop
  drop-back u n e =
      let p : (x : ℕ × List ℕ) × ((number 64 newline).read u ≡ some x) × (give (drop x.0) x.1 ≡ give c rest) =
      bind-some ((number 64 newline).read u) (λ r. give (drop r.0) r.1) (c, rest) e in
      let b = (number-right 64 newline no-newline).back u p.0.0 p.0.1 p.1 in
      same (drop p.0.0) p.0.1 p.2 b.0
      (rw (drop-line p.0.0) (append_assoc (ascii "drop,") ((number 64 newline).print p.0.0) p.0.1 ∙ rw b.1 (literal-back (ascii "drop,") t u n)))

  pub line-back : read_line t ≡ give c rest → Within c × (line_text c ++ rest ≡ t)
  unfolding read_line
  line-back e =
      by_name (read_literal (ascii "alloc,") t) read_alloc _ c rest e alloc-back
      (λ f. by_name (read_literal (ascii "store,") t) read_store _ c rest f store-back
      (λ g. by_name (read_literal (ascii "drop,") t) read_drop _ c rest g drop-back
      (λ k. absurd (none-not-some k))))

-- ---- a text of lines

-- a line's text is not empty
line_first : (l : Line) → (b : ℕ) × (t : List ℕ) × (line_text l ≡ b ∷ t)
unfolding ascii
line_first (alloc t k bs) = (97, _, alloc-line t k bs)
line_first (store a b o) = (115, _, store_line a b o)
line_first (drop a) = (100, _, drop-line a)

most-forth : (n : ℕ) (ls : List Line) → All Within ls → length (lines_text ls) ≤ n → read_most n (lines_text ls) ≡ some ls
unfolding lines_text read_most flat_map
most-forth zero [] h e = refl
most-forth (suc n) [] h e = refl
most-forth zero (l ∷ ls) h e = let p = line_first l in absurd (omega (arith, length-append (line_text l) (lines_text ls), ap length p.2))
most-forth (suc n) (l ∷ ls) h e =
    let p = line_first l in
    let le : length (lines_text ls) ≤ n = omega (arith, length-append (line_text l) (lines_text ls), ap length p.2) in
    let f : read_line (line_text l ++ lines_text ls) ≡ give l (lines_text ls) = line-forth l (lines_text ls) h.0 in
    let ih : read_most n (lines_text ls) ≡ some ls = most-forth n ls h.1 le in
    let g : read_line (p.0 ∷ p.1 ++ lines_text ls) ≡ give l (lines_text ls) = rw p.2 at f in
    rw p.2 (rw g (rw ih))

most-back : (n : ℕ) (t : List ℕ) (ls : List Line) → read_most n t ≡ some ls → All Within ls × (lines_text ls ≡ t)
unfolding lines_text read_most flat_map
most-back zero [] ls e = let q : [] ≡ ls = some_inj e in rw (← q) (tt, refl)
most-back zero (b ∷ t) ls e = absurd (none-not-some e)
most-back (suc n) [] ls e = let q : [] ≡ ls = some_inj e in rw (← q) (tt, refl)
most-back (suc n) (b ∷ t) ls e =
    let p : (x : Line × List ℕ) × (read_line (b ∷ t) ≡ some x) × ((read_most n x.1 >>= λ ms. some (x.0 ∷ ms)) ≡ some ls) =
    bind-some (read_line (b ∷ t)) (λ r. read_most n r.1 >>= λ ms. some (r.0 ∷ ms)) ls e in
    let q : (ms : List Line) × (read_most n p.0.1 ≡ some ms) × (some (p.0.0 ∷ ms) ≡ some ls) =
    bind-some (read_most n p.0.1) (λ ms. some (p.0.0 ∷ ms)) ls p.2 in
    let ih = most-back n p.0.1 q.0 q.1 in
    let f = line-back (b ∷ t) p.0.0 p.0.1 p.1 in
    let w : p.0.0 ∷ q.0 ≡ ls = some_inj q.2 in
    rw (← w) ((f.0, ih.0), ap (λ (z : List ℕ). line_text p.0.0 ++ z) ih.1 ∙ f.1)

-- A TEXT IS READ exactly if it is that of a list of lines
pub read-exactly : (t : List ℕ) (ls : List Line) → (read_lines t ≡ some ls) ↔ (All Within ls × (lines_text ls ≡ t))
unfolding read_lines
read-exactly t ls = (most-back (length t) t ls, λ p. rw (← p.1) (most-forth (length (lines_text ls)) ls p.0 (omega arith)))

-- a text has no more lines than bytes
pub lines-fewer : (ls : List Line) → length ls ≤ length (lines_text ls)
unfolding lines_text flat_map
lines-fewer [] = omega arith
lines-fewer (l ∷ ls) = let p = line_first l in omega (arith, length-append (line_text l) (lines_text ls), ap length p.2, lines-fewer ls)

-- ---- line by line

-- a line that was read leaves less to read
pub line-shorter : (t rest : List ℕ) (l : Line) → read_line t ≡ give l rest → length rest < length t
line-shorter t rest l e = let p = line_first l in omega (arith, ap length (line-back t l rest e).1, length-append (line_text l) rest, ap length p.2)

-- more lines than bytes are never asked for
most-same : (n m : ℕ) (t : List ℕ) → length t ≤ n → length t ≤ m → read_most n t ≡ read_most m t
unfolding read_most
most-same zero zero [] h k = refl
most-same zero (suc m) [] h k = refl
most-same (suc n) zero [] h k = refl
most-same (suc n) (suc m) [] h k = refl
most-same zero m (b ∷ t) h k = absurd (omega arith)
most-same (suc n) zero (b ∷ t) h k = absurd (omega arith)
most-same (suc n) (suc m) (b ∷ t) h k = go (read_line (b ∷ t)) refl (λ u p q. most-same n m u p q)
  where
    go : (o : Option (Line × List ℕ)) → read_line (b ∷ t) ≡ o → ((u : List ℕ) → length u ≤ n → length u ≤ m → read_most n u ≡ read_most m u)
        → (o >>= λ r. read_most n r.1 >>= λ ls. some (r.0 ∷ ls)) ≡ (o >>= λ r. read_most m r.1 >>= λ ls. some (r.0 ∷ ls))
    go none e ih = refl
    go (some r) e ih = ap (λ (x : Option (List Line)). x >>= λ ls. some (r.0 ∷ ls)) (ih r.1 (omega (arith, line-shorter (b ∷ t) r.1 r.0 e)) (omega (arith, line-shorter (b ∷ t) r.1 r.0 e)))

pub read-nothing : (t : List ℕ) → length t ≡ 0 → read_lines t ≡ some []
unfolding read_lines read_most
read-nothing [] h = refl
read-nothing (b ∷ t) h = absurd (omega arith)

pub read-bad : (t : List ℕ) → (length t ≡ 0 → ⊥) → read_line t ≡ none → read_lines t ≡ none
unfolding read_lines read_most
read-bad [] h e = absurd (h refl)
read-bad (b ∷ t) h e = rw e

pub read_more : (t rest : List ℕ) (l : Line) → read_line t ≡ give l rest → read_lines t ≡ (read_lines rest >>= λ ls. some (l ∷ ls))
unfolding read_lines read_most
read_more [] rest l e = absurd (omega (arith, line-shorter [] rest l e))
read_more (b ∷ t) rest l e = rw e (ap (λ (x : Option (List Line)). x >>= λ ls. some (l ∷ ls)) (most-same (length t) (length rest) rest (omega (arith, line-shorter (b ∷ t) rest l e)) (omega arith)))

is-more : (o : Option (List Line)) (l : Line) → is_read (o >>= λ ls. some (l ∷ ls)) ≡ is_read o
is-more none l = refl
is-more (some ls) l = refl

pub text-nothing : (t : List ℕ) → length t ≡ 0 → is_text t ≡ true
unfolding is_text
text-nothing t h = ap is_read (read-nothing t h)

pub text-bad : (t : List ℕ) → (length t ≡ 0 → ⊥) → read_line t ≡ none → is_text t ≡ false
unfolding is_text
text-bad t h e = ap is_read (read-bad t h e)

pub text-more : (t rest : List ℕ) (l : Line) → read_line t ≡ give l rest → is_text t ≡ is_text rest
unfolding is_text
text-more t rest l e = ap is_read (read_more t rest l e) ∙ is-more (read_lines rest) l
