-- One block of a pass: the row after the blocks' has its live-out, and `rows::step_at` adds what is not killed to its live-in row. Assumes nothing.
use mathlib.Core.Path.{◌≡◌, refl, sym, ap, ap₂, ◌∙◌, subst}
use mathlib.Core.Logic.{inl, ⊎_elim}
use mathlib.Core.Bool.{Bool, true, false, not, ◌&&◌, ◌||◌}
use mathlib.Core.List.{List}
use Prim.Native.Nat.{ℕ, ◌+◌, ◌-◌, ◌*◌, ◌/◌, ◌%◌, ◌≤◌, ◌<◌}
use Rattle.word.specs.Inner.Bit.{bit}
use Rattle.rows.specs.Inner.Row.{bit_in, part, Part, Stepped, listed}
use Rattle.liveness.proofs.Growth.{stepped-more}
use Rattle.liveness.specs.Inner.Scratch.{Outside, cell, set_bits}
use native.Mathlib.Omega.{arith}
use native.Mathlib.Decide.{dec_lt}
use lib.ListN.{length, get_or, take, drop, length-drop, length-take}
use lib.Seq.{take-take, get_or-take, get_or-drop, ext_get_or}

-- bits of a part
pub part-cell : (a W : ℕ) (s : List ℕ) (q : ℕ) → q < 64 * W → bit_in 64 (part a (a + W) s) q ≡ cell s a q
unfolding cell bit_in part
part-cell a W s q h = ap (λ (x : ℕ). bit x (q % 64)) (get_or-take ((a + W) - a) (drop a s) (q / 64) 0 (omega arith) ∙ get_or-drop a s (q / 64) 0)

module _ {s s' : List ℕ} {a e : ℕ} {R : List ℕ → List ℕ → Type 0} (p : Part s s' a e R) where
  -- only the words of the part differ
  pub part-frame : (W : ℕ) → e ≡ a + W → Outside s s' a W
  part-frame W size = record { kept = p.len; same = λ i h. ⊎_elim (before i) (after i) h }
    where
      before : (i : ℕ) → i < a → get_or s' i 0 ≡ get_or s i 0
      before i h = sym (get_or-take a s' i 0 h) ∙ ap (λ (l : List ℕ). get_or l i 0) p.before ∙ get_or-take a s i 0 h

      after : (i : ℕ) → a + W ≤ i → get_or s' i 0 ≡ get_or s i 0
      after i h =
          let k : e + (i - e) ≡ i = omega arith in
          ap (λ (x : ℕ). get_or s' x 0) (sym k) ∙ sym (get_or-drop e s' (i - e) 0) ∙ ap (λ (l : List ℕ). get_or l (i - e) 0) p.after ∙ get_or-drop e s (i - e) 0 ∙ ap (λ (x : ℕ). get_or s x 0) k

  -- a part that is the same leaves the whole the same
  pub part_same : part a e s' ≡ part a e s → s' ≡ s
  unfolding part
  part_same q = ext_get_or 0 s' s p.len (λ i h. go i (dec_lt i a) (dec_lt i e))
    where
      go : (i : ℕ) → Dec (i < a) → Dec (i < e) → get_or s' i 0 ≡ get_or s i 0
      go i (yes h) k = sym (get_or-take a s' i 0 h) ∙ ap (λ (l : List ℕ). get_or l i 0) p.before ∙ get_or-take a s i 0 h
      go i (no h) (yes k) =
          let j : a + (i - a) ≡ i = omega arith in
          let l : i - a < e - a = omega arith in
          ap (λ (x : ℕ). get_or s' x 0) (sym j) ∙ sym (get_or-drop a s' (i - a) 0) ∙ sym (get_or-take (e - a) (drop a s') (i - a) 0 l)
          ∙ ap (λ (m : List ℕ). get_or m (i - a) 0) q
          ∙ get_or-take (e - a) (drop a s) (i - a) 0 l ∙ get_or-drop a s (i - a) 0 ∙ ap (λ (x : ℕ). get_or s x 0) j
      go i (no h) (no k) =
          let j : e + (i - e) ≡ i = omega arith in
          ap (λ (x : ℕ). get_or s' x 0) (sym j) ∙ sym (get_or-drop e s' (i - e) 0) ∙ ap (λ (l : List ℕ). get_or l (i - e) 0) p.after ∙ get_or-drop e s (i - e) 0 ∙ ap (λ (x : ℕ). get_or s x 0) j

  -- the first m words, where the part lies among them
  part-of-take : (m : ℕ) (l : List ℕ) → a ≤ e → e ≤ m → part a e (take m l) ≡ part a e l
  unfolding part
  part-of-take m l low high =
      ext_get_or 0 (take (e - a) (drop a (take m l))) (take (e - a) (drop a l)) lens (λ i h. entry i h)
    where
      lens : length (take (e - a) (drop a (take m l))) ≡ length (take (e - a) (drop a l))
      lens = omega (arith, length-take (e - a) (drop a (take m l)), length-take (e - a) (drop a l), length-drop a (take m l), length-drop a l, length-take m l)

      entry : (i : ℕ) → i < length (take (e - a) (drop a (take m l))) → get_or (take (e - a) (drop a (take m l))) i 0 ≡ get_or (take (e - a) (drop a l)) i 0
      entry i h =
          let k : i < e - a = omega (arith, length-take (e - a) (drop a (take m l))) in
          get_or-take (e - a) (drop a (take m l)) i 0 k ∙ get_or-drop a (take m l) i 0 ∙ get_or-take m l (a + i) 0 (omega arith)
          ∙ sym (get_or-take (e - a) (drop a l) i 0 k ∙ get_or-drop a l i 0)

  pub part-take : (m : ℕ) → a ≤ e → e ≤ m → Part (take m s) (take m s') a e R
  part-take m low high = record {
    len = omega (arith, p.len, length-take m s, length-take m s');
    inside = subst (λ (l : List ℕ). R l (part a e (take m s'))) (sym (part-of-take m s low high)) (subst (R (part a e s)) (sym (part-of-take m s' low high)) p.inside);
    before = take-take a m s' (omega arith) ∙ p.before ∙ sym (take-take a m s (omega arith));
    after = ext_get_or 0 (drop e (take m s')) (drop e (take m s))
        (omega (arith, length-drop e (take m s'), length-drop e (take m s), length-take m s', length-take m s, p.len))
        (λ i h. let k : e + i < m = omega (arith, length-drop e (take m s'), length-take m s') in
        get_or-drop e (take m s') i 0 ∙ get_or-take m s' (e + i) 0 k ∙ sym (get_or-drop e s' i 0) ∙ ap (λ (l : List ℕ). get_or l i 0) p.after
        ∙ get_or-drop e s i 0 ∙ sym (get_or-take m s (e + i) 0 k) ∙ sym (get_or-drop e (take m s) i 0));
  }

-- what one step of `rows::step_at` ensures, said of rows in the scratch: a row of zeros is given for what is made
pub record Met (s s' : List ℕ) (m W live out kill : ℕ) (changed : Bool) : Type 0 where
  pub frame : Outside s s' live W
  pub cells : (q : ℕ) → q < 64 * W → cell s' live q ≡ cell s live q || (cell s out q && not (cell s kill q))
  pub same : changed ≡ false → s' ≡ s
  pub more : changed ≡ true → set_bits m s < set_bits m s'

pub met_of : {s s' : List ℕ} (m W live made out kill : ℕ) {changed : Bool}
    → Part s s' live (live + W) (λ l l'. Stepped 64 l (part made (made + W) s) (part out (out + W) s) (part kill (kill + W) s) l' changed)
    → live + W ≤ m → m ≤ length s → ((q : ℕ) → q < 64 * W → cell s made q ≡ false) → Met s s' m W live out kill changed
met_of {s} {s'} m W live made out kill {changed} p low high blank = record {
  frame = part-frame p W refl;
  cells = λ q h.
      sym (part-cell live W s' q h) ∙ p.inside.bits q
      ∙ ap₂ (λ (x y : Bool). x || y) (part-cell live W s q h)
      (ap₂ (λ (x y : Bool). x || y) (part-cell made W s q h ∙ blank q h)
      (ap₂ (λ (x y : Bool). x && not y) (part-cell out W s q h) (part-cell kill W s q h)));
  same = λ c. part_same p (p.inside.same c);
  more = λ c. stepped-more (take m s) (take m s') live (live + W) (part made (made + W) s) (part out (out + W) s) (part kill (kill + W) s) (omega arith)
      (omega (arith, length-take m s)) changed (part-take p m (omega arith) low) c;
}

-- words from m on do not count
pub bits-kept : {s s' : List ℕ} {a w : ℕ} (m : ℕ) → m ≤ a → Outside s s' a w → set_bits m s' ≡ set_bits m s
bits-kept {s} {s'} m h o =
    ap (λ (l : List ℕ). length (listed 64 l))
    (ext_get_or 0 (take m s') (take m s) (omega (arith, length-take m s, length-take m s', o.kept))
    (λ i k. let l : i < m = omega (arith, length-take m s') in get_or-take m s' i 0 l ∙ o.same i (inl (omega arith)) ∙ sym (get_or-take m s i 0 l)))
