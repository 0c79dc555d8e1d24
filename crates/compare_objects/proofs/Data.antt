-- One trace of an object with another's data beside it: what is found of bytes and handles is the order of the two. Assumes nothing.
use Prim.Native.Nat.{ℕ, ◌-◌, ◌≤◌, ◌<◌, min}
use mathlib.Core.Path.{◌≡◌, refl, sym, ap, ◌∙◌}
use mathlib.Core.Option.{none, some}
use mathlib.Core.List.{List, [], ◌∷◌}
use lib.ListN.{length, get_or, take, drop, length-drop, drop_of_length-le}
use lib.Seq.{take_all}
use native.Mathlib.Decide.{dec_lt}
use native.Mathlib.Omega.{arith}
use Rattle.std.specs.Prelude.{Some, None}
use Rattle.std.specs.declared.cmp.Ordering.{Ordering}
use Rattle.word.specs.Result.{Result}
use Rattle.ty.specs.Types.{Table}
use Rattle.trace.specs.Places.{Places, shown_places}
use Rattle.trace.specs.Inner.Emit.{Raw, raw_of, compared, handing_at, told, InUse}
use Rattle.traced.proofs.BesideLaws.{beside-told, beside_none}
use Rattle.alike.specs.Order.{order}
use Rattle.alike.specs.Inner.ByTurns.{◌and_then◌}
use Rattle.alike.specs.Inner.Beside.{Beside, beside_first, beside_all}
use Rattle.beside.specs.Inner.Codes.{order_of}
use Rattle.beside.specs.Inner.Ranks.{place_in}
use Rattle.beside.specs.Inner.Found.{codes_of}
use Rattle.beside.proofs.Codings.{order-code}
use Rattle.alike.proofs.Turns.{then-assoc}
use Rattle.compare_objects.specs.Inner.Sides.{data_beside}

-- ---- parts of data: what is visible from start on, or from where the data ends

module _ (s f : ℕ) (b : List ℕ) (e : f ≡ min s (length b)) where
  front_same : take f b ≡ take s b
  front_same = go (dec_lt s (length b))
    where
      go : Dec (s < length b) → take f b ≡ take s b
      go (yes h) = let q : f ≡ s = omega arith in ap (λ (k : ℕ). take k b) q
      go (no h) = take_all f b (omega arith) ∙ sym (take_all s b (omega arith))

  rest-same : drop f b ≡ drop s b
  rest-same = go (dec_lt s (length b))
    where
      go : Dec (s < length b) → drop f b ≡ drop s b
      go (yes h) = let q : f ≡ s = omega arith in ap (λ (k : ℕ). drop k b) q
      go (no h) = drop_of_length-le b {i = f} (omega arith) ∙ sym (drop_of_length-le b {i = s} (omega arith))

  -- the part from f on, as the code lends it
  lent-rest : take (length b - f) (drop f b) ≡ drop f b
  lent-rest = take_all (length b - f) (drop f b) (omega (arith, length-drop f b))

  tail-same : (n d : ℕ) → n ≡ length b - f → take (n - d) (drop d (take (length b - f) (drop f b))) ≡ drop d (drop s b)
  tail-same n d en =
      ap (λ (l : List ℕ). take (n - d) (drop d l)) lent-rest
      ∙ take_all (n - d) (drop d (drop f b)) (omega (arith, length-drop d (drop f b), length-drop f b)) ∙ ap (drop d) rest-same

  part-long : (n : ℕ) → n ≡ length b - f → n ≤ length (take (length b - f) (drop f b))
  part-long n en = omega (arith, ap length lent-rest, length-drop f b)

  pub parts-long : (c : List ℕ) → length b ≡ length c → (length b - f ≤ length (take (length b - f) (drop f b))) × (length b - f ≤ length (take (length c - f) (drop f c)))
  parts-long c l = (part-long (length b - f) refl, omega (arith, length-drop f c, lib.ListN.length-take (length c - f) (drop f c)))

-- ---- what one trace found

module _ (T : Table) (kind t start : ℕ) (b c work : List ℕ) (R R' : ℕ → Result ℕ) (owork : List ℕ) (r : InUse) (found work' : List ℕ)
    (er : told r found work' ≡ handing_at (compared R R' owork (drop start c)) (drop start b) (raw_of (0 ∷ 0 ∷ []) work 0) (shown_places T kind t start b))
    (can : shown_places T kind t start b ≡ none → ⊥) where
  abbrev place : ℕ → ℕ → Ordering
  place = place_in R work R' owork

  pub data-traced : {X : Type 0} → r ≡ None → X
  data-traced e = absurd (can (beside_none R R' owork (drop start c) (drop start b) work (shown_places T kind t start b) r found work' er e))

  module _ (done : ℕ) (ed : r ≡ Some done) where
    -- by the places that there are
    by-places : {X : Type 0} → ((ps : List ℕ) → shown_places T kind t start b ≡ some ps → X) → X
    by-places {X} f = go (shown_places T kind t start b) refl
      where
        go : (o : Places) → shown_places T kind t start b ≡ o → X
        go none e = absurd (can e)
        go (some ps) e = f ps e

    abbrev along : List ℕ → Beside
    along ps = beside_all place (drop start b) (drop start c) beside_first ps

    raw-is : (ps : List ℕ) → shown_places T kind t start b ≡ some ps → raw_of found work' done ≡ raw_of (codes_of (along ps)) work (along ps).done
    raw-is ps e = beside-told R R' owork (drop start c) (drop start b) work (shown_places T kind t start b) r found work' er ps e done ed

    pub data-kept : work' ≡ work
    data-kept = by-places (λ ps e. ap (λ (x : Raw). x.words) (raw-is ps e))

    module _ (even : length b ≡ length c) (from : ℕ) (ef : from ≡ min start (length b)) (hidden before shown handles : Ordering)
        (eh : hidden ≡ order (take (from - 0) (drop 0 b)) (take (from - 0) (drop 0 c))) (es : before ≡ order_of (get_or found 0 0))
        (el : shown ≡ (before and_then order (take ((length b - from) - done) (drop done (take (length b - from) (drop from b)))) (take ((length b - from) - done) (drop done (take (length c - from) (drop from c))))))
        (ei : handles ≡ order_of (get_or found 1 0)) where
      ef' : from ≡ min start (length c)
      ef' = omega arith

      hidden-is : hidden ≡ order (take start b) (take start c)
      hidden-is =
          let z : from - 0 ≡ from = omega arith in
          eh ∙ ap (λ (k : ℕ). order (take k b) (take k c)) z ∙ (λ i. order (front_same start from b ef i) (front_same start from c ef' i))

      shown-is : shown ≡ (before and_then order (drop done (drop start b)) (drop done (drop start c)))
      shown-is =
          let n : length b - from ≡ length c - from = omega arith in
          el ∙ (λ i. before and_then order (tail-same start from b ef (length b - from) done refl i) (tail-same start from c ef' (length b - from) done n i))

      -- as the code puts them together
      pub data_is : ((hidden and_then shown) and_then handles) ≡ data_beside place start b c (shown_places T kind t start b)
      unfolding data_beside
      data_is = by-places (λ ps e.
          let raw = raw-is ps e in
          let y : Beside = along ps in
          let f0 : before ≡ y.bytes = es ∙ ap (λ (x : Raw). order_of (get_or x.marks 0 0)) raw ∙ order-code y.bytes in
          let f1 : handles ≡ y.handles = ei ∙ ap (λ (x : Raw). order_of (get_or x.marks 1 0)) raw ∙ order-code y.handles in
          let dn : done ≡ y.done = ap (λ (x : Raw). x.count) raw in
          let front : Ordering = order (take start b) (take start c) in
          let tail : Ordering = order (drop y.done (drop start b)) (drop y.done (drop start c)) in
          (λ i. (hidden-is i and_then shown-is i) and_then f1 i)
          ∙ (λ i. (front and_then (f0 i and_then order (drop (dn i) (drop start b)) (drop (dn i) (drop start c)))) and_then y.handles)
          ∙ then-assoc front (y.bytes and_then tail) y.handles
          ∙ ap (data_beside place start b c) (sym e))
