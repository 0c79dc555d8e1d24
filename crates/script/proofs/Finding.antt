-- What the code's readers say of a line: one law for each way out. Assumes nothing.
use Prim.Native.Nat.{ℕ, ◌≤◌, ◌<◌, ◌^◌}
use Rattle.text.specs.Text.{ascii, comma, read_literal}
use Rattle.text.specs.Reading.{give, digit_of, read_hex, read_field}
use Rattle.text.specs.Format.{number, bytes_line, pair}
use Rattle.text.specs.Inner.Answer.{value_answer, literal_answer, hex_answer, hex_at}
use Rattle.std.specs.Prelude.{Option, Some, None, is_some}
use Rattle.text.proofs.Getting.{answer-none, field_found, hex-found, hex-missing, literal-found, literal-lost}
use Rattle.script.specs.Script.{begins_call}
use Rattle.script.specs.Calls.{Call, alloc, take, seal, recycle}
use Rattle.script.specs.Reading.{alloc_format, read_alloc, read_take, read_call}
use Rattle.script.specs.Inner.Found.{AllocReads, Reads, LineRead}
use Rattle.script.specs.declared.AllocLine.{AllocLine}
use Rattle.script.specs.declared.Line.{Line}
use Rattle.script.specs.declared.Line.TheVariants.{Alloc, Take, Seal, Recycle}
use Rattle.script.proofs.Scripts.{begins-call, begins-bad}
use Rattle.text.proofs.Copying.{hex-is}
use Rattle.text.proofs.Laws.{no-comma}
use mathlib.Core.List.{List, [], ◌∷◌}
use mathlib.Core.Option as maybe
use mathlib.Core.Option.{none}
use mathlib.Core.Path.{◌≡◌, refl, sym, ap, ◌∙◌, subst}
use lib.ListN.{length, drop}

-- ---- `alloc`: type, kind, data

module _ (s : List ℕ) (at : ℕ) (r : Option (ℕ × ℕ)) (e : r ≡ value_answer (length s) (read_field 4294967295 44 (drop at s))) where
  pub no-type : r ≡ None → alloc_format.read (drop at s) ≡ none
  unfolding alloc_format pair number
  no-type f = rw (answer-none s (read_field 4294967295 44 (drop at s)) e f)

  module _ (t a : ℕ) (f : r ≡ Some (t, a)) (q : Option (ℕ × ℕ)) (e₂ : q ≡ value_answer (length s) (read_field 255 44 (drop a s))) where
    type-read : (number 32 comma).read (drop at s) ≡ give t (drop a s)
    unfolding number
    type-read = (field_found s 32 44 at t a no-comma e f).0

    type-narrow : t < 2 ^ 32
    unfolding number
    type-narrow = (field_found s 32 44 at t a no-comma e f).2

    pub no_kind : q ≡ None → alloc_format.read (drop at s) ≡ none
    unfolding alloc_format pair number
    no_kind g = rw (type-read, answer-none s (read_field 255 44 (drop a s)) e₂ g)

    module _ (k b : ℕ) (g : q ≡ Some (k, b)) (p : Option (ℕ × ℕ)) (e₃ : p ≡ hex_answer (length s) (read_hex (drop b s))) where
      kind-read : (number 8 comma).read (drop a s) ≡ give k (drop b s)
      unfolding number
      kind-read = (field_found s 8 44 a k b no-comma e₂ g).0

      pub no-data : p ≡ None → alloc_format.read (drop at s) ≡ none
      unfolding alloc_format pair bytes_line
      no-data h = rw (type-read, kind-read, hex-missing s b e₃ h)

      pub alloc-read : (n c : ℕ) → p ≡ Some (n, c) → AllocReads (alloc_format.read (drop at s)) s (record { ty = t; kind = k; from = b; count = n }) c
      unfolding alloc_format pair bytes_line
      alloc-read n c h =
          let x = hex-found s b n c e₃ h in
          let i : hex_at s b ≡ x.0 = hex-is s b x.0 (drop c s) x.1 in
          record {
            fields = rw (type-read, kind-read, x.1) (ap (λ (bs : List ℕ). give (t, (k, bs)) (drop c s)) (sym i));
            there = record { parsed = record { rest = drop c s; reads = x.1 ∙ ap (λ (bs : List ℕ). give bs (drop c s)) (sym i) }; counted = sym x.2 ∙ ap length (sym i); narrow = type-narrow };
            inside = x.3;
          }

-- the line of the fields
pub alloc-lost : (t : List ℕ) → alloc_format.read t ≡ none → read_alloc t ≡ none
unfolding read_alloc
alloc-lost t e = rw e

pub alloc-line : (t s : List ℕ) (a : AllocLine) (next : ℕ) → AllocReads (alloc_format.read t) s a next → Reads (read_alloc t) s (Alloc a) next
unfolding read_alloc
alloc-line t s a next d = record { call = rw d.fields; there = d.there; inside = d.inside }

-- ---- `take`: handle, and fields that it does not use

module _ (s : List ℕ) (at : ℕ) (r : Option (ℕ × ℕ)) (e : r ≡ value_answer (length s) (read_field 18446744073709551615 44 (drop at s))) where
  pub no-handle : r ≡ None → read_take (drop at s) ≡ none
  unfolding read_take number
  no-handle f = rw (answer-none s (read_field 18446744073709551615 44 (drop at s)) e f)

  module _ (x a : ℕ) (f : r ≡ Some (x, a)) where
    handle-read : (number 64 comma).read (drop at s) ≡ give x (drop a s)
    unfolding number
    handle-read = (field_found s 64 44 at x a no-comma e f).0

    pub handle-inside : a ≤ length s
    unfolding number
    handle-inside = (field_found s 64 44 at x a no-comma e f).1

    module _ (q : Option ℕ) (e₂ : q ≡ literal_answer (length s) (read_literal (48 ∷ 44 ∷ 10 ∷ []) (drop a s))) where
      pub no-zeros : q ≡ None → read_take (drop at s) ≡ none
      unfolding read_take ascii
      no-zeros g = rw (handle-read, literal-lost (48 ∷ 44 ∷ 10 ∷ []) s a e₂ g)

      pub take-read : (b : ℕ) → q ≡ Some b → Reads (read_take (drop at s)) s (Take x) b
      unfolding read_take ascii
      take-read b g =
          let y = literal-found (48 ∷ 44 ∷ 10 ∷ []) s a b e₂ g in
          record { call = rw (handle-read, y.0); there = tt; inside = y.1 }

-- ---- by name

abbrev alloc_name : List ℕ
alloc_name = 97 ∷ 108 ∷ 108 ∷ 111 ∷ 99 ∷ 44 ∷ []

abbrev take_name : List ℕ
take_name = 116 ∷ 97 ∷ 107 ∷ 101 ∷ 44 ∷ []

abbrev seal_line : List ℕ
seal_line = 115 ∷ 101 ∷ 97 ∷ 108 ∷ 44 ∷ 48 ∷ 44 ∷ 48 ∷ 44 ∷ 10 ∷ []

abbrev recycle_line : List ℕ
recycle_line = 114 ∷ 101 ∷ 99 ∷ 121 ∷ 99 ∷ 108 ∷ 101 ∷ 44 ∷ 48 ∷ 44 ∷ 48 ∷ 44 ∷ 10 ∷ []

module _ (s : List ℕ) (at : ℕ) (r : Option ℕ) (e : r ≡ literal_answer (length s) (read_literal alloc_name (drop at s))) where
  pub by-alloc : (a : ℕ) → r ≡ Some a → (l : Option (Line × ℕ)) → LineRead (read_alloc (drop a s)) s l → LineRead (read_call (drop at s)) s l
  unfolding read_call ascii
  by-alloc a f l h = subst (λ (o : maybe.Option (Call × List ℕ)). LineRead o s l) (rw (literal-found alloc_name s at a e f).0) h

  module _ (f : r ≡ None) (r₂ : Option ℕ) (e₂ : r₂ ≡ literal_answer (length s) (read_literal take_name (drop at s))) where
    pub by-take : (a : ℕ) → r₂ ≡ Some a → (l : Option (Line × ℕ)) → LineRead (read_take (drop a s)) s l → LineRead (read_call (drop at s)) s l
    unfolding read_call ascii
    by-take a g l h = subst (λ (o : maybe.Option (Call × List ℕ)). LineRead o s l) (rw (literal-lost alloc_name s at e f, (literal-found take_name s at a e₂ g).0)) h

    module _ (g : r₂ ≡ None) (r₃ : Option ℕ) (e₃ : r₃ ≡ literal_answer (length s) (read_literal seal_line (drop at s))) where
      pub seal-read : (a : ℕ) → r₃ ≡ Some a → Reads (read_call (drop at s)) s Seal a
      unfolding read_call ascii
      seal-read a h =
          let y = literal-found seal_line s at a e₃ h in
          record { call = rw (literal-lost alloc_name s at e f, literal-lost take_name s at e₂ g, y.0); there = tt; inside = y.1 }

      module _ (h : r₃ ≡ None) (r₄ : Option ℕ) (e₄ : r₄ ≡ literal_answer (length s) (read_literal recycle_line (drop at s))) where
        pub recycle-read : (a : ℕ) → r₄ ≡ Some a → Reads (read_call (drop at s)) s Recycle a
        unfolding read_call ascii
        recycle-read a i =
            let y = literal-found recycle_line s at a e₄ i in
            record { call = rw (literal-lost alloc_name s at e f, literal-lost take_name s at e₂ g, literal-lost seal_line s at e₃ h, y.0); there = tt; inside = y.1 }

        pub no_name : r₄ ≡ None → read_call (drop at s) ≡ none
        unfolding read_call ascii
        no_name i = rw (literal-lost alloc_name s at e f, literal-lost take_name s at e₂ g, literal-lost seal_line s at e₃ h, literal-lost recycle_line s at e₄ i)

-- ---- the first line

pub first-begins : (s : List ℕ) (o : Option (Line × ℕ)) → LineRead (read_call (drop 0 s)) s o → (length s ≡ 0 → ⊥) → is_some o ≡ begins_call s
first-begins s (Some r) h k = begins-call s _ _ h.call
first-begins s None h k = begins-bad s k h
