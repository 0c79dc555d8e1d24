-- A call's line reads as that call, and only its line does. Assumes nothing.
use Prim.Native.Nat.{ℕ, ◌^◌, ◌<◌}
use Rattle.text.specs.Text.{ascii, comma, decimal, digits, line, Bytes, read_literal}
use Rattle.text.specs.Reading.{give, ◌>>=◌}
use Rattle.text.specs.Format.{number, bytes_line, pair}
use Rattle.text.specs.Inner.Right.{Right}
use Rattle.text.proofs.Laws.{none-not-some, bind-some, some_inj, literal-forth, literal-back, number-right, bytes-line-right, pair-right, by_name, no-comma}
use Rattle.script.specs.Calls.{Call, alloc, take, seal, recycle, call_line, Within}
use Rattle.script.specs.Reading.{alloc_format, read_alloc, read_take, read_call, alone, call_of}
use mathlib.Core.List.{List, [], ◌∷◌, ◌++◌, append_assoc, append-nil}
use mathlib.Core.Option.{none, some}
use mathlib.Core.Path.{◌≡◌, refl, sym, ap, ◌∙◌}
use mathlib.Core.Logic.{◌↔◌}

abbrev Fields : Type 0
Fields = ℕ × (ℕ × List ℕ)

pub alloc-right : Right alloc_format (λ r. (r.0 < 2 ^ 32) × ((r.1.0 < 2 ^ 8) × Bytes r.1.1))
unfolding alloc_format
alloc-right = pair-right (number-right 32 comma no-comma) λ _. pair-right (number-right 8 comma no-comma) λ _. bytes-line-right

-- ---- the lines, as the reader goes through them

alloc-line : (t k : ℕ) (bs : List ℕ) → call_line (alloc t k bs) ≡ ascii "alloc," ++ alloc_format.print (t, (k, bs))
unfolding call_line line ascii alloc_format pair number bytes_line
alloc-line t k bs = simp append_assoc

take-line : (x : ℕ) → call_line (take x) ≡ ascii "take," ++ ((number 64 comma).print x ++ ascii "0,\n")
unfolding call_line line ascii number decimal digits
take-line x = simp append_assoc

seal-line : call_line seal ≡ ascii "seal,0,0,\n"
unfolding call_line line ascii decimal digits
seal-line = refl

recycle-line : call_line recycle ≡ ascii "recycle,0,0,\n"
unfolding call_line line ascii decimal digits
recycle-line = refl

-- ---- forth

alloc-forth : (t k : ℕ) (bs rest : List ℕ) → Within (alloc t k bs) → read_call (call_line (alloc t k bs) ++ rest) ≡ give (alloc t k bs) rest
unfolding read_call read_alloc
alloc-forth t k bs rest h =
    rw (alloc-line t k bs, append_assoc (ascii "alloc,") (alloc_format.print (t, (k, bs))) rest, literal-forth (ascii "alloc,") (alloc_format.print (t, (k, bs)) ++ rest), alloc-right.forth (t, (k, bs)) rest h)

not-alloc : (u : List ℕ) → read_literal (ascii "alloc,") (ascii "take," ++ u) ≡ none
unfolding ascii read_literal
not-alloc u = refl

take-forth : (x : ℕ) (rest : List ℕ) → x < 2 ^ 64 → read_call (call_line (take x) ++ rest) ≡ give (take x) rest
unfolding read_call read_take
take-forth x rest h =
    let u : List ℕ = (number 64 comma).print x ++ (ascii "0,\n" ++ rest) in
    let e : call_line (take x) ++ rest ≡ ascii "take," ++ u =
    rw (take-line x) (append_assoc (ascii "take,") ((number 64 comma).print x ++ ascii "0,\n") rest ∙ ap (λ (t : List ℕ). ascii "take," ++ t) (append_assoc ((number 64 comma).print x) (ascii "0,\n") rest)) in
    rw (e, not-alloc u, literal-forth (ascii "take,") u, (number-right 64 comma no-comma).forth x (ascii "0,\n" ++ rest) h, literal-forth (ascii "0,\n") rest)

seal-forth : (rest : List ℕ) → read_call (call_line seal ++ rest) ≡ give seal rest
unfolding read_call ascii read_literal
seal-forth rest = rw seal-line

recycle-forth : (rest : List ℕ) → read_call (call_line recycle ++ rest) ≡ give recycle rest
unfolding read_call ascii read_literal
recycle-forth rest = rw recycle-line

pub call-forth : (c : Call) (rest : List ℕ) → Within c → read_call (call_line c ++ rest) ≡ give c rest
call-forth (alloc t k bs) rest h = alloc-forth t k bs rest h
call-forth (take x) rest h = take-forth x rest h
call-forth seal rest h = seal-forth rest
call-forth recycle rest h = recycle-forth rest

-- ---- back

module _ (t : List ℕ) (c : Call) (rest : List ℕ) where
  -- the line of another call, with another rest
  same : (d : Call) (more : List ℕ) → give d more ≡ give c rest → Within d → call_line d ++ more ≡ t → Within c × (call_line c ++ rest ≡ t)
  same d more e w l =
      let v0 : d ≡ c = ap (λ (x : Call × List ℕ). x.0) (some_inj e) in
      let v1 : more ≡ rest = ap (λ (x : Call × List ℕ). x.1) (some_inj e) in
      rw (← v0, ← v1) (w, l)

  alloc-back : (u : List ℕ) → read_literal (ascii "alloc,") t ≡ some u → read_alloc u ≡ give c rest → Within c × (call_line c ++ rest ≡ t)
  unfolding read_alloc
  alloc-back u n e =
      let p : (x : Fields × List ℕ) × (alloc_format.read u ≡ some x) × (give (alloc x.0.0 x.0.1.0 x.0.1.1) x.1 ≡ give c rest) =
      bind-some (alloc_format.read u) (λ r. give (alloc r.0.0 r.0.1.0 r.0.1.1) r.1) (c, rest) e in
      let b = alloc-right.back u p.0.0 p.0.1 p.1 in
      same (alloc p.0.0.0 p.0.0.1.0 p.0.0.1.1) p.0.1 p.2 b.0
      (rw (alloc-line p.0.0.0 p.0.0.1.0 p.0.0.1.1) (append_assoc (ascii "alloc,") (alloc_format.print p.0.0) p.0.1 ∙ rw b.1 (literal-back (ascii "alloc,") t u n)))

  take_back : (u : List ℕ) → read_literal (ascii "take,") t ≡ some u → read_take u ≡ give c rest → Within c × (call_line c ++ rest ≡ t)
  unfolding read_take
  take_back u n e =
      let p : (x : ℕ × List ℕ) × ((number 64 comma).read u ≡ some x) × ((read_literal (ascii "0,\n") x.1 >>= λ v. give (take x.0) v) ≡ give c rest) =
      bind-some ((number 64 comma).read u) (λ r. read_literal (ascii "0,\n") r.1 >>= λ v. give (take r.0) v) (c, rest) e in
      let q : (v : List ℕ) × (read_literal (ascii "0,\n") p.0.1 ≡ some v) × (give (take p.0.0) v ≡ give c rest) =
      bind-some (read_literal (ascii "0,\n") p.0.1) (λ v. give (take p.0.0) v) (c, rest) p.2 in
      let b = (number-right 64 comma no-comma).back u p.0.0 p.0.1 p.1 in
      let l : ascii "take," ++ ((number 64 comma).print p.0.0 ++ (ascii "0,\n" ++ q.0)) ≡ t =
      rw (literal-back (ascii "0,\n") p.0.1 q.0 q.1, b.1) (literal-back (ascii "take,") t u n) in
      same (take p.0.0) q.0 q.2 b.0
      (rw (take-line p.0.0) (append_assoc (ascii "take,") ((number 64 comma).print p.0.0 ++ ascii "0,\n") q.0 ∙ ap (λ (z : List ℕ). ascii "take," ++ z) (append_assoc ((number 64 comma).print p.0.0) (ascii "0,\n") q.0) ∙ l))

  pub call_back : read_call t ≡ give c rest → Within c × (call_line c ++ rest ≡ t)
  unfolding read_call
  call_back e =
      by_name (read_literal (ascii "alloc,") t) read_alloc _ c rest e alloc-back
      (λ f. by_name (read_literal (ascii "take,") t) read_take _ c rest f take_back
      (λ g. by_name (read_literal (ascii "seal,0,0,\n") t) (give seal) _ c rest g
      (λ u n q. same seal u q tt (rw seal-line (literal-back (ascii "seal,0,0,\n") t u n)))
      (λ h. by_name (read_literal (ascii "recycle,0,0,\n") t) (give recycle) _ c rest h
      (λ u n q. same recycle u q tt (rw recycle-line (literal-back (ascii "recycle,0,0,\n") t u n)))
      (λ k. absurd (none-not-some k)))))

-- ---- a line by itself

-- A LINE IS A CALL'S exactly if it is what the call is written as
pub call-of-line : (c : Call) → Within c → call_of (call_line c) ≡ some c
unfolding call_of
call-of-line c w = rw (sym (append-nil (call_line c)), call-forth c [] w)

alone-back : (r : Call × List ℕ) (c : Call) → alone r ≡ some c → r ≡ (c, [])
alone-back (d, []) c e = ap (λ (x : Call). (x, [])) (some_inj e)
alone-back (d, b ∷ t) c e = absurd (none-not-some e)

pub line-of-call : (l : List ℕ) (c : Call) → call_of l ≡ some c → Within c × (call_line c ≡ l)
unfolding call_of
line-of-call l c e =
    let p : (r : Call × List ℕ) × (read_call l ≡ some r) × (alone r ≡ some c) = bind-some (read_call l) alone c e in
    let b = call_back l c [] (p.1 ∙ ap some (alone-back p.0 c p.2)) in
    (b.0, sym (append-nil (call_line c)) ∙ b.1)

pub read-exactly : (l : List ℕ) (c : Call) → (call_of l ≡ some c) ↔ (Within c × (call_line c ≡ l))
read-exactly l c = (line-of-call l c, λ p. sym (ap call_of p.1) ∙ call-of-line c p.0)
