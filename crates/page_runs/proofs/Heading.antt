-- What the code finds of a long line: one law for each way out. Assumes nothing.
use Prim.Native.Nat.{ℕ, zero, suc, ◌+◌, ◌-◌, ◌*◌, ◌/◌, ◌%◌, ◌^◌, ◌≤◌, ◌<◌}
use Rattle.word.proofs.Bools.{and_both}
use Rattle.word.specs.Lists.{all}
use Rattle.word.specs.Put.{put}
use Rattle.word.proofs.PutLaws.{take_put}
use Rattle.text.specs.Text.{ascii, comma, read_literal}
use Rattle.text.specs.Reading.{give, read_field}
use Rattle.text.specs.Format.{number}
use Rattle.text.specs.Inner.Answer.{value_answer, literal_answer}
use Rattle.std.specs.Prelude.{◌↔◌, Option, Some, None}
use Rattle.text.proofs.Laws.{literal-back, number-right, no-comma}
use Rattle.text.proofs.Getting.{answer-none, field_found, literal-found, literal-lost}
use Rattle.script.specs.Script.{run_script}
use Rattle.page_runs.specs.Inner.Long.{Open, head_of, read_head, DataFrom, HeadFound, is_hex, AllHex, Shortens}
use Rattle.page_runs.proofs.Long.{head-short, bad-head, bad-data, less-alike}
use mathlib.Core.Bool.{Bool, true, false}
use mathlib.Core.List.{List, [], ◌∷◌, ◌++◌, append_assoc}
use mathlib.Core.Option.{none, some}
use mathlib.Core.Path.{◌≡◌, refl, sym, ap, ◌∙◌, subst}
use native.Mathlib.Omega.{arith}
use lib.ListN.{length, take, drop, length-append, length-drop}
use lib.Seq.{take_at, take-add, take_all, drop-drop}

-- ---- the beginning of the line

-- what is handed on by `?`
none-there : (s : List ℕ) {out : Option ℕ} → out ≡ None → read_head s ≡ none → HeadFound s out
none-there s o e = subst (HeadFound s) (sym o) e

abbrev alloc_name : List ℕ
alloc_name = 97 ∷ 108 ∷ 108 ∷ 111 ∷ 99 ∷ 44 ∷ []

module _ (s : List ℕ) (r : Option ℕ) (e : r ≡ literal_answer (length s) (read_literal alloc_name (drop 0 s))) where
  pub no_name : {out : Option ℕ} → out ≡ None → r ≡ None → HeadFound s out
  unfolding read_head ascii
  no_name o f = none-there s o (rw (literal-lost alloc_name s 0 e f))

  module _ (a : ℕ) (f : r ≡ Some a) (q : Option (ℕ × ℕ)) (e₂ : q ≡ value_answer (length s) (read_field 4294967295 44 (drop a s))) where
    name-read : read_literal alloc_name s ≡ some (drop a s)
    name-read = (literal-found alloc_name s 0 a e f).0

    pub no-type : {out : Option ℕ} → out ≡ None → q ≡ None → HeadFound s out
    unfolding read_head ascii number
    no-type o g = none-there s o (rw (name-read, answer-none s (read_field 4294967295 44 (drop a s)) e₂ g))

    module _ (t b : ℕ) (g : q ≡ Some (t, b)) (p : Option (ℕ × ℕ)) (e₃ : p ≡ value_answer (length s) (read_field 255 44 (drop b s))) where
      type-found : ((number 32 comma).read (drop a s) ≡ give t (drop b s)) × (b ≤ length s) × (t < 2 ^ 32)
      unfolding number
      type-found = field_found s 32 44 a t b no-comma e₂ g

      pub no_kind : {out : Option ℕ} → out ≡ None → p ≡ None → HeadFound s out
      unfolding read_head ascii number
      no_kind o k = none-there s o (rw (name-read, type-found.0, answer-none s (read_field 255 44 (drop b s)) e₃ k))

      pub found : (k c : ℕ) → p ≡ Some (k, c) → HeadFound s (Some c)
      unfolding head_of ascii number
      found k c h =
          let w = field_found s 8 44 b k c no-comma e₃ h in
          let name : alloc_name ++ drop a s ≡ s = literal-back alloc_name s (drop a s) name-read in
          let type : (number 32 comma).print t ++ drop b s ≡ drop a s = ((number-right 32 comma no-comma).back (drop a s) t (drop b s) type-found.0).1 in
          let kind : (number 8 comma).print k ++ drop c s ≡ drop b s = ((number-right 8 comma no-comma).back (drop b s) k (drop c s) w.0).1 in
          let all_of : head_of t k ++ drop c s ≡ s =
          append_assoc alloc_name ((number 32 comma).print t ++ (number 8 comma).print k) (drop c s)
          ∙ ap (λ (x : List ℕ). alloc_name ++ x) (append_assoc ((number 32 comma).print t) ((number 8 comma).print k) (drop c s) ∙ ap (λ (x : List ℕ). (number 32 comma).print t ++ x) kind ∙ type)
          ∙ name in
          let long : length (head_of t k) ≡ c = omega (arith, ap length all_of, length-append (head_of t k) (drop c s), length-drop c s, w.1) in
          record {
            type = t;
            kind = k;
            type_fits = type-found.2;
            kind_fits = w.2;
            head = ap (take c) (sym all_of) ∙ take_at (head_of t k) (drop c s) c long;
            short = omega (arith, head-short t k type-found.2 w.2);
            inside = w.1;
          }

-- ---- digits

hex-each : (s : List ℕ) → AllHex s → all is_hex s ≡ true
unfolding all
hex-each [] h = refl
hex-each (b ∷ s) h = rw (h 0 (omega arith), hex-each s (λ i k. h (suc i) (omega arith)))

each-hex : (s : List ℕ) → all is_hex s ≡ true → AllHex s
unfolding all
each-hex [] e i k = absurd (omega arith)
each-hex (b ∷ s) e zero k = (and_both (is_hex b) (all is_hex s) e).0
each-hex (b ∷ s) e (suc i) k = each-hex s (and_both (is_hex b) (all is_hex s) e).1 i (omega arith)

hex-not : (s : List ℕ) → (AllHex s → ⊥) → all is_hex s ≡ false
hex-not s n = go (all is_hex s) refl
  where
    go : (x : Bool) → all is_hex s ≡ x → x ≡ false
    go true e = absurd (n (each-hex s e))
    go false e = refl

-- ---- what stands for the line

module _ (b : List ℕ) (o : Open b) (long : length b ≡ 65536) where
  pub short-none : {out : Option ℕ} → out ≡ None → read_head b ≡ none → Shortens b b out
  short-none z e = subst (Shortens b b) (sym z) (bad-head b o (omega arith) e)

  module _ (from : ℕ) (d : DataFrom b from) (r : Bool) (all_of : (r ≡ true) ↔ AllHex (take (65536 - from) (drop from b))) where
    rest-all : take (65536 - from) (drop from b) ≡ drop from b
    rest-all = take_all (65536 - from) (drop from b) (omega (arith, length-drop from b))

    pub short-bad : r ≡ false → Shortens b b None
    short-bad e =
        bad-data b from d o
        (hex-not (drop from b) (λ h. let t : r ≡ true = all_of.1 (subst AllHex (sym rest-all) h) in let z : ◌≡◌ {A = ℕ} 0 1 = cc in omega arith))

    pub head-fits : from ≤ 21
    head-fits = d.short

    pub shortened : r ≡ true → (odd : ℕ) → odd ≡ (65536 - from) % 2 → (b' : List ℕ) → b' ≡ put b (from + 8194) (drop (65536 - odd) b) odd → Shortens b b' (Some (from + 8194 + odd))
    shortened e odd w b' q =
        let hex : all is_hex (drop from b) ≡ true = hex-each (drop from b) (subst AllHex rest-all (all_of.0 e)) in
        let few : from ≤ 21 = head-fits in
        let m : ℕ = (65536 - from) / 2 in
        let last : from + 2 * m ≡ 65536 - odd = omega arith in
        let rest : length (drop (65536 - odd) b) ≡ odd = omega (arith, length-drop (65536 - odd) b) in
        let kept : take (from + 8194 + odd) b' ≡ take from b ++ (take 8194 (drop from b) ++ drop (2 * m) (drop from b)) =
        ap (take (from + 8194 + odd)) q
        ∙ take_put b (from + 8194) (drop (65536 - odd) b) odd (omega arith) (omega arith)
        ∙ (λ j. take-add from 8194 b j ++ take_all odd (drop (65536 - odd) b) (omega arith) j)
        ∙ ap (λ (x : List ℕ). (take from b ++ take 8194 (drop from b)) ++ x) (ap (λ (k : ℕ). drop k b) (sym last) ∙ sym (drop-drop (2 * m) from b))
        ∙ append_assoc (take from b) (take 8194 (drop from b)) (drop (2 * m) (drop from b)) in (
          omega arith,
          λ more h.
              less-alike b from d m hex (omega arith) (omega (arith, length-drop from b)) more h
              ∙ ap (λ (x : List ℕ). run_script 64 4096 (x ++ more) h) (sym kept),
        )
