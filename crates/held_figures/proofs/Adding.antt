-- Page after page added up in words gives the totals of the shelf in words. Assumes nothing.
use mathlib.Core.List.{List, [], ◌∷◌}
use mathlib.Core.Path.{◌≡◌, sym, ap, ◌∙◌}
use native.Mathlib.Omega.{arith}
use Rattle.figures.specs.declared.Figures.{Figures}
use Rattle.figures.specs.Figures.{no_figures, merge, total}
use Rattle.figures.proofs.Totals.{figures-same, merge_none, none-merge}
use Rattle.held_figures.specs.Totals.{in_words}

-- what the call makes of the totals so far and the figures of one page after another
pub added : Figures → List Figures → Figures
added t [] = t
added t (f ∷ fs) = added (in_words (merge t f)) fs

-- a sum that stopped goes no further
stays : (t f g : Figures) → in_words (merge (in_words (merge t f)) g) ≡ in_words (merge t (merge f g))
stays t f g = figures-same _ _ (omega arith) (omega arith) (omega arith)

pub added-are : (t : Figures) (fs : List Figures) → in_words (added t fs) ≡ in_words (merge t (total fs))
unfolding added
added-are t [] = ap in_words (sym (merge_none t))
added-are t (f ∷ fs) = added-are (in_words (merge t f)) fs ∙ stays t f (total fs)

-- from no figures on: the totals
pub added-total : (fs : List Figures) → in_words (added no_figures fs) ≡ in_words (total fs)
added-total fs = added-are no_figures fs ∙ ap in_words (none-merge (total fs))
