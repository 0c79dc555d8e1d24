-- Queue and turns in one word a slot. Assumes nothing.
use Prim.Native.Nat.{ℕ, suc, ◌+◌, ◌*◌, ◌/◌, ◌%◌, ◌≤◌, ◌<◌}
use mathlib.Core.Path.{◌≡◌, sym, ap, ◌∙◌}
use mathlib.Core.List.{List}
use lib.ListN.{length, get_or, take, length-take}
use lib.Seq.{get_or-set_same, get_or-set_other, get_or-take}
use native.Mathlib.Omega.{arith}
use native.Mathlib.Decide.{ℕ_discrete}
use Rattle.reach.specs.Reach.{◌∈◌}
use Rattle.alike.specs.Order.{turn}
use Rattle.alike.specs.Inner.Packed.{Packed, put_turn}
use Rattle.alike.proofs.Lists.{Once, turn_at}

-- the queue that a marking left, of slots below 2^24, with no turn yet
pub packed-begin : (work : List ℕ) (n : ℕ) → n ≤ length work → ((k : ℕ) → k < n → get_or work k 0 < 16777216) → Packed work (take n work) 0
packed-begin work n r s =
    record {
      below = λ j h.
          let b : j < n = omega (arith, length-take n work) in
          let l : get_or work j 0 < 16777216 = s j b in
          let e : get_or (take n work) j 0 ≡ get_or work j 0 = get_or-take n work j 0 b in
          omega arith;
      above = λ k h. absurd (omega arith);
    }

-- one turn
pub packed-next : (work q : List ℕ) (i : ℕ) → Packed work q i → Once q → i < length q → get_or q i 0 < length work → Packed (put_turn work (get_or q i 0) i) q (suc i)
packed-next work q i z u h l =
    record { below = λ j b. low j b (ℕ_discrete j (get_or q i 0)); above = λ k b. high k b (ℕ_discrete k i) }
  where
    here : get_or (put_turn work (get_or q i 0) i) (get_or q i 0) 0 ≡ get_or work (get_or q i 0) 0 % 16777216 + i * 16777216
    here = get_or-set_same work (get_or q i 0) (get_or work (get_or q i 0) 0 % 16777216 + i * 16777216) 0 l

    there : (j : ℕ) → (j ≡ get_or q i 0 → ⊥) → get_or (put_turn work (get_or q i 0) i) j 0 ≡ get_or work j 0
    there j w = get_or-set_other work (get_or q i 0) j (get_or work (get_or q i 0) 0 % 16777216 + i * 16777216) 0 w

    low : (j : ℕ) → j < length q → Dec (j ≡ get_or q i 0) → get_or (put_turn work (get_or q i 0) i) j 0 % 16777216 ≡ get_or q j 0
    low j b (yes e) =
        let a : get_or (put_turn work (get_or q i 0) i) j 0 ≡ get_or work (get_or q i 0) 0 % 16777216 + i * 16777216 = ap (λ (o : ℕ). get_or (put_turn work (get_or q i 0) i) o 0) e ∙ here in
        let c : get_or work (get_or q i 0) 0 % 16777216 ≡ get_or q j 0 = ap (λ (o : ℕ). get_or work o 0 % 16777216) (sym e) ∙ z.below j b in
        omega arith
    low j b (no e) = ap (λ (o : ℕ). o % 16777216) (there j e) ∙ z.below j b

    high : (k : ℕ) → k < suc i → Dec (k ≡ i) → get_or (put_turn work (get_or q i 0) i) (get_or q k 0) 0 / 16777216 ≡ k
    high k b (yes e) =
        let a : get_or (put_turn work (get_or q i 0) i) (get_or q k 0) 0 ≡ get_or work (get_or q i 0) 0 % 16777216 + i * 16777216 = ap (λ (o : ℕ). get_or (put_turn work (get_or q i 0) i) (get_or q o 0) 0) e ∙ here in
        omega arith
    high k b (no e) = ap (λ (o : ℕ). o / 16777216) (there (get_or q k 0) (λ w. e (u k i (omega arith) h w))) ∙ z.above k (omega arith)

-- after the last turn a slot's word has its turn above
pub packed-turn : (work q : List ℕ) → Packed work q (length q) → (o : ℕ) → o ∈ q → get_or work o 0 / 16777216 ≡ turn q o
packed-turn work q z o m = let t = turn_at q o m in ap (λ (x : ℕ). get_or work x 0 / 16777216) (sym t.1) ∙ z.above (turn q o) t.0
