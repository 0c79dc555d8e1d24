-- The names line: what follows it, and that input which does not begin with it never does. Assumes nothing.
use Prim.Native.Nat.{ℕ, ◌≤◌, ◌<◌}
use mathlib.Core.Bool.{Bool, true, false}
use mathlib.Core.List.{List, [], ◌∷◌, ◌++◌, append_assoc}
use mathlib.Core.Option.{none, some}
use mathlib.Core.Path.{◌≡◌, refl, sym, ap, ◌∙◌}
use native.Mathlib.Omega.{arith}
use lib.Dec.{eqb}
use lib.ListN.{length}
use Rattle.text.specs.Text.{read_literal}
use Rattle.text.proofs.Laws.{literal-forth, literal-back}

-- a text that goes on
pub literal-on : (cs t u rest : List ℕ) → read_literal cs t ≡ some u → read_literal cs (t ++ rest) ≡ some (u ++ rest)
literal-on cs t u rest e =
    ap (λ (x : List ℕ). read_literal cs (x ++ rest)) (sym (literal-back cs t u e)) ∙ ap (read_literal cs) (append_assoc cs u rest) ∙ literal-forth cs (u ++ rest)

-- once a text is as long as the literal, what follows changes nothing
pub literal-never : (cs t rest : List ℕ) → length cs ≤ length t → read_literal cs t ≡ none → read_literal cs (t ++ rest) ≡ none
unfolding read_literal
literal-never [] t rest h e = absurd (let z : ◌≡◌ {A = ℕ} 0 1 = cc in omega arith)
literal-never (c ∷ cs) [] rest h e = absurd (omega arith)
literal-never (c ∷ cs) (b ∷ t) rest h e = go (eqb c b) refl (λ f. literal-never cs t rest (omega arith) f)
  where
    go : (x : Bool) → eqb c b ≡ x → (read_literal cs t ≡ none → read_literal cs (t ++ rest) ≡ none) → read_literal (c ∷ cs) ((b ∷ t) ++ rest) ≡ none
    go true f ih = rw f (ih (rw f at e))
    go false f ih = rw f

-- a shorter text does not begin with it
pub literal-short : (cs t : List ℕ) → length t < length cs → read_literal cs t ≡ none
unfolding read_literal
literal-short [] t h = absurd (omega arith)
literal-short (c ∷ cs) [] h = refl
literal-short (c ∷ cs) (b ∷ t) h = go (eqb c b) refl (literal-short cs t (omega arith))
  where
    go : (x : Bool) → eqb c b ≡ x → read_literal cs t ≡ none → read_literal (c ∷ cs) (b ∷ t) ≡ none
    go true f ih = rw f ih
    go false f ih = rw f
