-- A list as the rows of n numbers that std's `as_chunks` gives: where a row's parts stand in the list, and a test of all rows. Assumes nothing.
use mathlib.Core.Path.{◌≡◌, refl, sym, ap, ap₂, ◌∙◌}
use mathlib.Core.Bool.{Bool, ◌&&◌}
use mathlib.Core.List.{List, [], ◌∷◌}
use Prim.Native.Nat.{ℕ, zero, suc, ◌+◌, ◌*◌, ◌/◌, ◌<◌}
use native.Mathlib.Omega.{arith}
use lib.ListN.{length, get_or, drop}
use Rattle.std.proofs.Math.Nat.{mul-suc}
use Rattle.std.proofs.lemmas.List.{get_or-take, get_or-drop}
use Rattle.std.specs.List.{list_all}
use Rattle.std.specs.Simd.{first_chunks}
use Rattle.word.specs.Lists.{all_below}
use Rattle.word.proofs.ListLaws.{below-front}

pub chunk-part : (n k : ℕ) (l : List ℕ) (i h : ℕ) (d : List ℕ) → i < k → h < n → get_or (get_or (first_chunks n k l) i d) h 0 ≡ get_or l (n * i + h) 0
chunk-part n zero l i h d a b = absurd (omega arith)
chunk-part n (suc k) l zero h d a b = get_or-take n l h 0 b ∙ ap (λ (x : ℕ). get_or l x 0) (let e : h ≡ n * 0 + h = omega arith in e)
chunk-part n (suc k) l (suc i) h d a b =
    chunk-part n k (drop n l) i h d (omega arith) b ∙ get_or-drop n l (n * i + h) 0 ∙ ap (λ (x : ℕ). get_or l x 0) (let e : n + (n * i + h) ≡ n * suc i + h = omega (arith, mul-suc n i) in e)

-- part h of row i stands at j
pub row-part : (n k : ℕ) (l : List ℕ) (rows : List (List ℕ)) → rows ≡ first_chunks n k l → (i h j : ℕ) (d : List ℕ) → i < k → h < n → n * i + h ≡ j → get_or (get_or rows i d) h 0 ≡ get_or l j 0
row-part n k l rows e i h j d a b at = ap (λ (r : List (List ℕ)). get_or (get_or r i d) h 0) e ∙ chunk-part n k l i h d a b ∙ ap (λ (x : ℕ). get_or l x 0) at

-- all entries of a list pass a test if all numbers below its length pass the test of the entry there
pub every-at : {A : Type 0} (test : A → Bool) (d : A) (xs : List A) (p : ℕ → Bool) → ((i : ℕ) → i < length xs → test (get_or xs i d) ≡ p i) → list_all test xs ≡ all_below p (length xs)
unfolding all_below
every-at test d [] p h = refl
every-at test d (x ∷ xs) p h = ap₂ ◌&&◌ (h 0 (omega arith)) (every-at test d xs (λ i. p (suc i)) (λ i l. h (suc i) (omega arith))) ∙ sym (below-front p (length xs))

-- both parts of a row of two
pub pair-parts : (l : List ℕ) (rows : List (List ℕ)) → rows ≡ first_chunks 2 (length l / 2) l → (i : ℕ) (d : List ℕ) → i < length l / 2
    → (get_or (get_or rows i d) 0 0 ≡ get_or l (2 * i) 0) × (get_or (get_or rows i d) 1 0 ≡ get_or l (2 * i + 1) 0)
pair-parts l rows e i d h = (
  row-part 2 (length l / 2) l rows e i 0 (2 * i) d h (omega arith) (omega arith),
  row-part 2 (length l / 2) l rows e i 1 (2 * i + 1) d h (omega arith) (omega arith),
)
