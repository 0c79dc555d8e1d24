-- What the test of the lent lengths says. Assumes nothing.
use Rattle.std.proofs.Common.{◌≡◌, ℕ, ◌*◌, ◌/◌, ◌≤◌, true, false, ◌&&◌, eqb, leb, ◌⊎◌, sym, refl, inl, inr, eq-eqb, eqb-true, le-leb, leb-true}
use Rattle.word.proofs.Bools.{and_both, either}
use Rattle.heap.specs.Sizes.{sizes_fit}

pub record Sizes (n w p : ℕ) : Type 0 where
  pub low : 1 ≤ n / 6
  pub high : n / 6 ≤ 16777216
  pub pool : p ≤ 1073741824
  pub narrow : n ≡ 6 * (n / 6)
  pub wide : w ≡ 4 * (n / 6)

module _ (n w p : ℕ) where
  pub sizes-tested : sizes_fit n w p ≡ true → Sizes n w p
  unfolding sizes_fit
  sizes-tested h =
      let a = leb 1 (n / 6) in
      let b = leb (n / 6) 16777216 in
      let c = leb p 1073741824 in
      let d = eqb n (6 * (n / 6)) in
      let t₁ = and_both (a && b && c && d) (eqb w (4 * (n / 6))) h in
      let t₂ = and_both (a && b && c) d t₁.0 in
      let t₃ = and_both (a && b) c t₂.0 in
      let t₄ = and_both a b t₃.0 in
      record {
        low = leb-true 1 (n / 6) t₄.0;
        high = leb-true (n / 6) 16777216 t₄.1;
        pool = leb-true p 1073741824 t₃.1;
        narrow = eqb-true n (6 * (n / 6)) t₂.1;
        wide = eqb-true w (4 * (n / 6)) t₁.1;
      }

  pub sizes-no : (Sizes n w p → ⊥) → false ≡ sizes_fit n w p
  sizes-no f = go (either (sizes_fit n w p))
    where
      go : (sizes_fit n w p ≡ true) ⊎ (sizes_fit n w p ≡ false) → false ≡ sizes_fit n w p
      go (inl y) = absurd (f (sizes-tested y))
      go (inr y) = sym y

  pub sizes-yes : 1 ≤ n / 6 → n / 6 ≤ 16777216 → p ≤ 1073741824 → n ≡ 6 * (n / 6) → w ≡ 4 * (n / 6) → true ≡ sizes_fit n w p
  unfolding sizes_fit
  sizes-yes a b c d e = sym (rw (le-leb 1 (n / 6) a, le-leb (n / 6) 16777216 b, le-leb p 1073741824 c, eq-eqb n (6 * (n / 6)) d, eq-eqb w (4 * (n / 6)) e) refl)
