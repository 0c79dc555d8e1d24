-- A name, byte by byte as the code reads it. Assumes nothing.
use Prim.Native.Nat.{ℕ, ◌+◌, ◌-◌, ◌≤◌, ◌<◌}
use mathlib.Core.List.{List, ◌∷◌, ◌++◌}
use mathlib.Core.Option as maybe
use mathlib.Core.Option.{none, some}
use mathlib.Core.Path.{◌≡◌, refl, sym, ap, ◌∙◌}
use lib.ListN.{length, take, drop, get_or, length-drop, length-append, drop_of_length-le}
use lib.Seq.{take-append_seam}
use native.Mathlib.Omega.{arith}
use borrow.Author.Tests.{le-leb, lt-leb, eq-eqb, ne_eqb}
use Rattle.word.proofs.ListLaws.{drop-cons-one}
use Rattle.text.specs.Reading.{give, ◌>>=◌}
use Rattle.std.specs.Prelude.{Option, Some, None}
use Rattle.tables.specs.Table.{plain, Plain, name_text}
use Rattle.tables.specs.Reading.{name_format, read_name}
use Rattle.tables.proofs.Laws.{name-right}
use Rattle.tables.proofs.Endings.{found}
use Rattle.tables.specs.Inner.Answer.{ending}

name-step-ending : (len b : ℕ) (o : maybe.Option (List ℕ × List ℕ)) → ending len (o >>= λ r. give (b ∷ r.0) r.1) ≡ ending len o
name-step-ending len b none = refl
name-step-ending len b (some r) = refl

module _ (s : List ℕ) (i : ℕ) {x : Option ℕ} (e : x ≡ ending (length s) (read_name (drop i s))) where
  pub name-ended : length s ≤ i → None ≡ x
  unfolding read_name
  name-ended h = sym (e ∙ rw (drop_of_length-le s {i = i} h))

  pub name-there : i < length s → get_or s i 0 ≡ 10 → Some (i + 1) ≡ x
  unfolding read_name
  name-there h b =
      sym (e ∙ rw (drop-cons-one s i h, eq-eqb (get_or s i 0) 10 b) (ap Some (let v : length s - length (drop (i + 1) s) ≡ i + 1 = omega (arith, length-drop (i + 1) s) in v)))

  pub name-low : i < length s → (get_or s i 0 ≡ 10 → ⊥) → get_or s i 0 < 32 → None ≡ x
  unfolding read_name plain
  name-low h b l = sym (e ∙ rw (drop-cons-one s i h, ne_eqb (get_or s i 0) 10 b, lt-leb 32 (get_or s i 0) l))

  pub name-comma : i < length s → (get_or s i 0 ≡ 10 → ⊥) → 32 ≤ get_or s i 0 → get_or s i 0 ≡ 44 → None ≡ x
  unfolding read_name plain
  name-comma h b l m = sym (e ∙ rw (drop-cons-one s i h, ne_eqb (get_or s i 0) 10 b, le-leb 32 (get_or s i 0) l, eq-eqb (get_or s i 0) 44 m))

  pub name-on : i < length s → (get_or s i 0 ≡ 10 → ⊥) → 32 ≤ get_or s i 0 → (get_or s i 0 ≡ 44 → ⊥) → x ≡ ending (length s) (read_name (drop (i + 1) s))
  unfolding read_name plain
  name-on h b l m =
      e ∙ rw (drop-cons-one s i h, ne_eqb (get_or s i 0) 10 b, le-leb 32 (get_or s i 0) l, ne_eqb (get_or s i 0) 44 m)
      (name-step-ending (length s) (get_or s i 0) (read_name (drop (i + 1) s)))

-- a name that was found
pub record NameFound (s : List ℕ) (at k : ℕ) : Type 0 where
  pub name : List ℕ
  pub reads : read_name (drop at s) ≡ give name (drop k s)
  pub inside : k ≤ length s
  pub prints : name_text name ++ drop k s ≡ drop at s
  pub plainly : Plain name

pub name-found : (s : List ℕ) (at : ℕ) {r : Option ℕ} (k : ℕ) → r ≡ ending (length s) (read_name (drop at s)) → r ≡ Some k → NameFound s at k
unfolding name_format
name-found s at k e q =
    let f = found name-right s at k e q in
    record { name = f.value; reads = f.reads; inside = f.inside; prints = f.prints; plainly = f.within }

module _ (s : List ℕ) (at k : ℕ) (h : at ≤ length s) (f : NameFound s at k) where
  pub name-long : at + length (name_text f.name) ≡ k
  name-long = omega (arith, ap length f.prints, length-append (name_text f.name) (drop k s), length-drop k s, length-drop at s, f.inside)

  pub name-part : take (k - at) (drop at s) ≡ name_text f.name
  name-part =
      ap (λ (n : ℕ). take n (drop at s)) (let v : k - at ≡ length (name_text f.name) = omega (arith, name-long) in v)
      ∙ ap (take (length (name_text f.name))) (sym f.prints) ∙ take-append_seam (name_text f.name) (drop k s)
