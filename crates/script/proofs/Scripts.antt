-- Laws of running a script: its first line, and its parts. Assumes nothing.
use Prim.Native.Nat.{ℕ, ◌<◌}
use Rattle.word.specs.Result.{Result, ok, refused}
use Rattle.text.specs.Reading.{give}
use Rattle.text.proofs.Laws.{none-not-some}
use Rattle.heap.specs.State.{State}
use Rattle.heap.specs.Calls.{Changed, refuse, done}
use Rattle.script.specs.Script.{lines, first_is_call, is_call, begins_call, ends_line, doing, line_does, unless, and_then, run_lines, run_script}
use Rattle.script.specs.Calls.{Call, call_line}
use Rattle.script.specs.Reading.{read_call, call_of}
use Rattle.script.proofs.Reading.{call-forth, call_back, call-of-line, line-of-call}
use Rattle.script.proofs.Lining.{call_long, lines-concat, lines-some, lines-append, lines-call}
use Rattle.std.specs.List.{concat}
use mathlib.Core.Bool.{true, false}
use mathlib.Core.List.{List, [], ◌∷◌, ◌++◌}
use mathlib.Core.Option.{Option, none, some}
use mathlib.Core.Path.{◌≡◌, refl, sym, ap, ◌∙◌}
use lib.ListN.{length, length-append}
use native.Mathlib.Omega.{arith}

-- a call that was read leaves less to read
pub call-shorter : (t rest : List ℕ) (c : Call) → read_call t ≡ give c rest → length rest < length t
call-shorter t rest c e = omega (arith, ap length (call_back t c rest e).1, length-append (call_line c) rest, call_long c)

-- ---- the first line

-- the first line of a text that begins with no call's line is no call's
first-bad : (b : ℕ) (t : List ℕ) → read_call (b ∷ t) ≡ none → (l : List ℕ) (ls : List (List ℕ)) → lines (b ∷ t) ≡ l ∷ ls → call_of l ≡ none
first-bad b t e l ls q = go (call_of l) refl
  where
    go : (o : Option Call) → call_of l ≡ o → call_of l ≡ none
    go none f = f
    go (some c) f =
        let d = line-of-call l c f in
        let w : call_line c ++ concat ls ≡ b ∷ t = rw d.1 (sym (ap concat q) ∙ lines-concat (b ∷ t)) in
        absurd (none-not-some (sym e ∙ sym (ap read_call w) ∙ call-forth c (concat ls) d.0))

pub begins-nothing : (t : List ℕ) → length t ≡ 0 → true ≡ begins_call t
unfolding begins_call lines
begins-nothing [] h = refl
begins-nothing (b ∷ t) h = absurd (omega arith)

pub begins-call : (t rest : List ℕ) (c : Call) → read_call t ≡ give c rest → true ≡ begins_call t
unfolding begins_call
begins-call t rest c e =
    let b = call_back t c rest e in
    sym (ap (λ (u : List ℕ). first_is_call (lines u)) (sym b.1) ∙ rw (lines-call c rest, call-of-line c b.0))

pub begins-bad : (t : List ℕ) → (length t ≡ 0 → ⊥) → read_call t ≡ none → false ≡ begins_call t
unfolding begins_call
begins-bad [] h e = absurd (h refl)
begins-bad (b ∷ t) h e =
    let p = lines-some b t in
    sym (ap first_is_call p.2 ∙ ap is_call (first-bad b t e p.0 p.1 p.2))

-- ---- running

module _ (S P : ℕ) where
  -- an empty script changes nothing
  pub run-nothing : (h : State) → run_script S P [] h ≡ done tt h
  unfolding run_script run_lines lines
  run-nothing h = refl

  -- the first line is a call's: that call, then what is left
  pub run_call : (t rest : List ℕ) (c : Call) (h : State) → read_call t ≡ give c rest → run_script S P t h ≡ and_then (doing S P c h) (run_script S P rest)
  unfolding run_script run_lines
  run_call t rest c h e =
      let b = call_back t c rest e in
      ap (λ (u : List ℕ). run_lines S P (lines u) h) (sym b.1) ∙ rw (lines-call c rest, call-of-line c b.0)

  -- it is no call's
  pub run-bad : (b : ℕ) (t : List ℕ) (h : State) → read_call (b ∷ t) ≡ none → run_script S P (b ∷ t) h ≡ refuse 17 h
  unfolding run_script run_lines
  run-bad b t h e = let p = lines-some b t in rw (p.2, first-bad b t e p.0 p.1 p.2)

  unless-unless : (r : Result Unit) (h : State) (f g : State → Changed Unit) → unless r h (λ x. and_then (f x) g) ≡ and_then (unless r h f) g
  unless-unless (ok a) h f g = refl
  unless-unless (refused n) h f g = refl

  run-append : (xs ys : List (List ℕ)) (h : State) → run_lines S P (xs ++ ys) h ≡ and_then (run_lines S P xs h) (run_lines S P ys)
  unfolding run_lines
  run-append [] ys h = refl
  run-append (x ∷ xs) ys h =
      (λ j. and_then (line_does S P (call_of x) h) (λ k. run-append xs ys k j))
      ∙ unless-unless (line_does S P (call_of x) h).answer (line_does S P (call_of x) h).heap (run_lines S P xs) (run_lines S P ys)

  -- A SCRIPT IN PARTS: whole lines first, then, unless one of these was refused, the others
  pub run-parts : (a b : List ℕ) (h : State) → ends_line a ≡ true → run_script S P (a ++ b) h ≡ and_then (run_script S P a h) (run_script S P b)
  unfolding run_script
  run-parts a b h e = rw (lines-append a b e) (run-append (lines a) (lines b) h)
