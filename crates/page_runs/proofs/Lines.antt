-- Where whole lines end. Assumes nothing.
use Prim.Native.Nat.{ℕ, zero, suc, ◌+◌, ◌≤◌, ◌<◌}
use mathlib.Core.Bool.{true}
use mathlib.Core.List.{List, [], ◌∷◌}
use mathlib.Core.Logic.{◌≢◌}
use mathlib.Core.Path.{◌≡◌, refl, ap, ◌∙◌}
use native.Mathlib.Omega.{arith}
use lib.ListN.{length, take, get_or}
use borrow.Author.Tests.{eq-eqb}
use Rattle.text.specs.Text.{newline}
use Rattle.script.specs.Script.{ends_line}
use Rattle.page_runs.specs.Inner.Steps.{Cut}

-- a text up to a byte 10
ends_at : (t : List ℕ) (i : ℕ) → i < length t → get_or t i 0 ≡ newline → ends_line (take (suc i) t) ≡ true
unfolding ends_line
ends_at [] i h e = absurd (omega arith)
ends_at (b ∷ t) zero h e = eq-eqb b newline e
ends_at (b ∷ []) (suc i) h e = absurd (omega arith)
ends_at (b ∷ c ∷ t) (suc i) h e = ends_at (c ∷ t) i (omega arith) e

module _ (t : List ℕ) where
  -- byte i is the last that ends a line
  pub cut-after : (i : ℕ) → i < length t → get_or t i 0 ≡ newline → ((k : ℕ) → i + 1 ≤ k → k < length t → get_or t k 0 ≢ newline) → Cut t (i + 1)
  cut-after i h e n =
      let s : suc i ≡ i + 1 = omega arith in
      record { inside = omega arith; lines = ap (λ (k : ℕ). ends_line (take k t)) (let z : i + 1 ≡ suc i = omega arith in z) ∙ ends_at t i h e; later = n }

  -- no byte ends one
  pub cut-none : ((k : ℕ) → k < length t → get_or t k 0 ≢ newline) → Cut t 0
  unfolding ends_line
  cut-none n = record { inside = omega arith; lines = refl; later = λ k a b. n k b }
