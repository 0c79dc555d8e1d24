-- A rule on the slots that stand in a list holds of every heap whose list is empty. Assumes nothing.
use mathlib.Core.Path.{◌≡◌, refl}
use mathlib.Core.List.{List, [], ◌∷◌}
use mathlib.Core.Bool.{true}
use Prim.Native.Nat.{ℕ, ◌+◌}
use native.Mathlib.Omega.{arith}
use lib.ListN.{length}
use Rattle.heap.specs.State.{Slot, State, times}
use Rattle.page_check.specs.Inner.Rules.{right, each, listed, obeyed}
use Rattle.page_check.specs.declared.Rule.{Rule}

module _ (r : Rule) (lax : (g k : ℕ) → right r g k 0 ≡ true) where
  none-asked : (l : List Slot) (i : ℕ) → true ≡ each r [] l i
  unfolding each times
  none-asked [] i = refl
  none-asked (x ∷ l) i = rw (lax x.generation x.kind) (none-asked l (i + 1))

  pub unlisted : (h : State) → length (listed r h) ≡ 0 → true ≡ obeyed r h
  unlisted h e = by (listed r h) e
    where
      by : (l : List ℕ) → length l ≡ 0 → true ≡ each r l h.slots 0
      by [] e = none-asked h.slots 0
      by (x ∷ l) e = absurd (omega arith)
