-- A list whose back is mapped first and then its front is mapped whole. Assumes nothing.
use Rattle.std.proofs.Common.{arith, ◌≡◌, sym, ap, ◌∙◌, ◌++◌, map, take, drop}
use Rattle.std.proofs.Common.{ℕ, ◌-◌, ◌≤◌, List, [], length}
use Rattle.std.proofs.lemmas.List.{length-take-le, length-drop, take_all, take-append-drop}
use Rattle.std.proofs.lemmas.List.{append-nil, map-append}
use Rattle.std.proofs.Math.ListN.{drop_of_length-le}
use Rattle.std.proofs.Math.Seq.{take-append_seam, drop-append_seam}

-- `ys` is the mapped back, `zs` the list with it
pub front-last : (f : ℕ → ℕ) (n : ℕ) (xs ys zs result : List ℕ) → n ≤ length xs
    → ys ≡ map f (take (length xs - n) (drop n xs))
    → zs ≡ take n xs ++ (ys ++ drop (length xs - n) (drop n xs))
    → result ≡ map f (take n zs) ++ drop n zs
    → result ≡ map f xs
front-last f n xs ys zs result le back whole front =
    let a : List ℕ = take n xs in
    let b : List ℕ = drop n xs in
    let la : length a ≡ n = length-take-le n xs le in
    let lb : length b ≡ length xs - n = length-drop n xs in
    let none : drop (length xs - n) b ≡ [] = drop_of_length-le b (omega (arith, lb)) in
    let all : take (length xs - n) b ≡ b = take_all (length xs - n) b (omega (arith, lb)) in
    let mapped : (ys ++ drop (length xs - n) b) ≡ map f b =
    (λ i. back i ++ none i) ∙ append-nil _ ∙ ap (map f) all in
    front
    ∙ ap (λ l. map f (take n l) ++ drop n l) (whole ∙ ap (λ l. a ++ l) mapped)
    ∙ ap (λ k. map f (take k (a ++ map f b)) ++ drop k (a ++ map f b)) (sym la)
    ∙ (λ i. map f (take-append_seam a (map f b) i) ++ drop-append_seam a (map f b) i)
    ∙ sym (map-append f a b)
    ∙ ap (map f) (take-append-drop n xs)
