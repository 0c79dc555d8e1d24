-- Lists that rise strictly: what they keep, how their entries compare, and that the numbers that pass a test rise. Assumes nothing.
use mathlib.Core.Path.{◌≡◌, refl, ap}
use mathlib.Core.Bool.{Bool, true, false, ◌&&◌}
use mathlib.Core.List.{List, [], ◌∷◌}
use Prim.Native.Nat.{ℕ, zero, suc, ◌+◌, ◌≤◌, ◌<◌}
use native.Mathlib.Omega.{arith}
use native.Mathlib.Decide.{ℕ_discrete}
use lib.ListN.{length, get_or}
use lib.Dec.{leb}
use borrow.Author.Tests.{leb-true, le-leb}
use Rattle.word.specs.Lists.{rising_from, rising}
use Rattle.word.specs.Ones.{keep, passing}
use Rattle.word.proofs.Bools.{and_both, both-and}

pub rising-lower : (lo lo' : ℕ) (xs : List ℕ) → lo ≤ lo' → rising_from lo' xs ≡ true → rising_from lo xs ≡ true
unfolding rising_from
rising-lower lo lo' [] le h = refl
rising-lower lo lo' (x ∷ xs) le h =
    let p = and_both (leb lo' x) (rising_from (suc x) xs) h in
    both-and (leb lo x) (rising_from (suc x) xs) (le-leb lo x (omega (arith, leb-true lo' x p.0))) p.1

-- no entry is below the start
pub rising-low : (lo : ℕ) (xs : List ℕ) → rising_from lo xs ≡ true → (k : ℕ) → k < length xs → lo ≤ get_or xs k 0
unfolding rising_from
rising-low lo [] h k l = absurd (omega arith)
rising-low lo (x ∷ xs) h zero l = leb-true lo x (and_both (leb lo x) (rising_from (suc x) xs) h).0
rising-low lo (x ∷ xs) h (suc k) l =
    let p = and_both (leb lo x) (rising_from (suc x) xs) h in
    omega (arith, rising-low (suc x) xs p.1 k (omega arith), leb-true lo x p.0)

pub rising-order : (lo : ℕ) (xs : List ℕ) → rising_from lo xs ≡ true → (j k : ℕ) → j < k → k < length xs → get_or xs j 0 < get_or xs k 0
unfolding rising_from
rising-order lo [] h j k l m = absurd (omega arith)
rising-order lo (x ∷ xs) h j zero l m = absurd (omega arith)
rising-order lo (x ∷ xs) h zero (suc k) l m = rising-low (suc x) xs (and_both (leb lo x) (rising_from (suc x) xs) h).1 k (omega arith)
rising-order lo (x ∷ xs) h (suc j) (suc k) l m = rising-order (suc x) xs (and_both (leb lo x) (rising_from (suc x) xs) h).1 j k (omega arith) (omega arith)

-- as std's binary search asks it
pub rising-weakly : (lo : ℕ) (xs : List ℕ) → rising_from lo xs ≡ true → (i j : ℕ) → i ≤ j → j < length xs → get_or xs i 0 ≤ get_or xs j 0
rising-weakly lo xs h i j le l =
    elim (ℕ_discrete i j) [ yes s ↦ omega (arith, ap (λ (m : ℕ). get_or xs m 0) s) | no s ↦ omega (arith, rising-order lo xs h i j (omega arith) l) ]

-- ---- the numbers that pass a test

keep-rises : (t : Bool) (b : ℕ) (l : List ℕ) → rising_from (suc b) l ≡ true → rising_from b (keep t b l) ≡ true
unfolding rising_from
keep-rises true b l e = both-and (leb b b) (rising_from (suc b) l) (le-leb b b (omega arith)) e
keep-rises false b l e = rising-lower b (suc b) l (omega arith) e

pub passing-rises : (p : ℕ → Bool) (b n : ℕ) → rising_from b (passing p b n) ≡ true
unfolding passing rising_from
passing-rises p b zero = refl
passing-rises p b (suc n) = keep-rises (p b) b (passing p (suc b) n) (passing-rises p (suc b) n)

pub passing-rising : (p : ℕ → Bool) (b n : ℕ) → rising (passing p b n) ≡ true
passing-rising p b n = rising-lower 0 b (passing p b n) (omega arith) (passing-rises p b n)
