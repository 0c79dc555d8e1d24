-- A turn of a pass: one block's live-out gathered, and its live-in row met. Assumes nothing.
use mathlib.Core.Path.{◌≡◌, refl, sym, ap, ap₂, ◌∙◌, subst, fun_ext}
use mathlib.Core.Logic.{◌⊎◌, inl, inr, ⊎_elim}
use mathlib.Core.Bool.{Bool, true, false, not, ◌&&◌, ◌||◌, true≢false, false≢true}
use mathlib.Core.List.{List}
use Prim.Native.Nat.{ℕ, ◌+◌, ◌-◌, ◌*◌, ◌≤◌, ◌<◌}
use native.Mathlib.Omega.{arith}
use native.Mathlib.Decide.{ℕ_discrete, dec_lt}
use lib.ListN.{length, get_or}
use Rattle.flow.specs.Function.{Function, first_at, start, end, Live}
use Rattle.flow.specs.Dataflow.{gen, kill, out, into}
use Rattle.word.proofs.Bools.{or_cases, or_left, or_right}
use Rattle.word.specs.Lists.{tabulate}
use Rattle.flow.proofs.Laws.{step-sound, Disjoint}
use Rattle.flow.proofs.Fixpoint.{fixpoint-is}
use Rattle.code.specs.View.{block_at}
use Rattle.code.specs.Inner.Columns.{seen}
use Rattle.liveness.specs.Inner.Scratch.{Outside, cell, live_at, one_below, set_bits, turn_of, Rows, Linked, Pass, Solved, Fixed}
use Rattle.liveness.proofs.Scratch.{block-fits, cell-before, cell-after, live_of, live-not, live-frame}
use Rattle.liveness.proofs.Steps.{Met, bits-kept}

-- the rows of two blocks
pub blocks-apart : (t b S : ℕ) → (t ≡ b → ⊥) → (t * S + S ≤ b * S) ⊎ (b * S + S ≤ t * S)
blocks-apart t b S ne = go (dec_lt t b)
  where
    go : Dec (t < b) → (t * S + S ≤ b * S) ⊎ (b * S + S ≤ t * S)
    go (yes h) = inl (block-fits t b S h)
    go (no h) = inr (block-fits b t S (omega arith))

-- the kill row of block t, where only the live-in row of block b changed
kept_row : {s s' : List ℕ} (b W : ℕ) → Outside s s' (b * (3 * W)) W → (t q : ℕ) → q < 64 * W → cell s' (t * (3 * W) + W) q ≡ cell s (t * (3 * W) + W) q
kept_row {s} {s'} b W o t q h = go (ℕ_discrete t b)
  where
    go : Dec (t ≡ b) → cell s' (t * (3 * W) + W) q ≡ cell s (t * (3 * W) + W) q
    go (yes e) = let e' = ap (λ (u : ℕ). u * (3 * W)) e in cell-after o (t * (3 * W) + W) q (omega (arith, e'))
    go (no e) =
        ⊎_elim (λ k. cell-before o (t * (3 * W) + W) q W h (omega arith)) (λ k. cell-after o (t * (3 * W) + W) q (omega arith)) (blocks-apart t b (3 * W) e)

kept-live : {s s' : List ℕ} (b W nb : ℕ) → Outside s s' (b * (3 * W)) W → (t q : ℕ) → q < 64 * W → (t ≡ b → ⊥) → live_at s' W nb q t ≡ live_at s W nb q t
kept-live {s} {s'} b W nb o t q h ne = go (dec_lt t nb)
  where
    go : Dec (t < nb) → live_at s' W nb q t ≡ live_at s W nb q t
    go (yes k) =
        live_of s' W nb q t k
        ∙ ⊎_elim (λ k. cell-before o (t * (3 * W)) q W h (omega arith)) (λ k. cell-after o (t * (3 * W)) q (omega arith)) (blocks-apart t b (3 * W) ne)
        ∙ sym (live_of s W nb q t k)
    go (no k) = live-not s' W nb q t (omega arith) ∙ sym (live-not s W nb q t (omega arith))

-- what the third rows hold stays
pub linked-out : {bs s s₁ : List ℕ} {W nb : ℕ} → Linked bs s W nb → Outside s s₁ (nb * (3 * W)) W → Linked bs s₁ W nb
linked-out {bs} {s} {s₁} {W} {nb} l o = record {
  wide = l.wide;
  next = λ b k h. l.next b k h ∙ ap (λ (x : ℕ). one_below x nb) (sym (o.same (b * (3 * W) + 2 * W) (inl (omega (arith, block-fits b nb (3 * W) k, l.wide)))));
  blank = λ q h. cell-after o (nb * (3 * W) + W) q (omega arith) ∙ l.blank q h;
}

pub linked-live : {bs s s₁ : List ℕ} {W nb : ℕ} (b : ℕ) → b < nb → Linked bs s W nb → Outside s s₁ (b * (3 * W)) W → Linked bs s₁ W nb
linked-live {bs} {s} {s₁} {W} {nb} b known l o = record {
  wide = l.wide;
  next = λ t k h. l.next t k h ∙ ap (λ (x : ℕ). one_below x nb) (sym (o.same (t * (3 * W) + 2 * W) (place t (ℕ_discrete t b))));
  blank = λ q h. cell-after o (nb * (3 * W) + W) q (omega (arith, block-fits b nb (3 * W) known)) ∙ l.blank q h;
}
  where
    place : (t : ℕ) → Dec (t ≡ b) → (t * (3 * W) + 2 * W < b * (3 * W)) ⊎ (b * (3 * W) + W ≤ t * (3 * W) + 2 * W)
    place t (yes e) = let e' = ap (λ (u : ℕ). u * (3 * W)) e in inr (omega (arith, e'))
    place t (no e) = ⊎_elim (λ k. inl (omega (arith, l.wide))) (λ k. inr (omega arith)) (blocks-apart t b (3 * W) e)

-- one block: s, then s₁ with its live-out gathered, then s₂ with its live-in row met
module _ (f : Function) (s s₁ s₂ : List ℕ) (nb W b : ℕ) (changed : Bool) (known : b < nb) (rows : Rows f s W nb)
    (o₁ : Outside s s₁ (nb * (3 * W)) W) (c₁ : (q : ℕ) → q < 64 * W → cell s₁ (nb * (3 * W)) q ≡ out f (live_at s W nb q) b)
    (m : Met s₁ s₂ (nb * (3 * W)) W (b * (3 * W)) (nb * (3 * W)) (b * (3 * W) + W) changed) where
  -- the live-in row of b now
  met : (q : ℕ) → q < 64 * W → live_at s₂ W nb q b ≡ live_at s W nb q b || (out f (live_at s W nb q) b && not (kill f q b))
  met q h =
      live_of s₂ W nb q b known ∙ m.cells q h
      ∙ ap₂ (λ (x y : Bool). x || y)
      (cell-before o₁ (b * (3 * W)) q W h (omega (arith, block-fits b nb (3 * W) known)) ∙ sym (live_of s W nb q b known))
      (ap₂ (λ (x y : Bool). x && not y) (c₁ q h) (cell-before o₁ (b * (3 * W) + W) q W h (omega (arith, block-fits b nb (3 * W) known)) ∙ rows.kills b q known h))

  other : (q t : ℕ) → q < 64 * W → (t ≡ b → ⊥) → live_at s₂ W nb q t ≡ live_at s W nb q t
  other q t h ne = kept-live b W nb m.frame t q h ne ∙ live-frame nb W o₁ q h t

  grows : (q t : ℕ) → q < 64 * W → live_at s W nb q t ≡ true → live_at s₂ W nb q t ≡ true
  grows q t h x = go (ℕ_discrete t b)
    where
      go : Dec (t ≡ b) → live_at s₂ W nb q t ≡ true
      go (yes e) = ap (live_at s₂ W nb q) e ∙ met q h ∙ or_left _ _ (ap (live_at s W nb q) (sym e) ∙ x)
      go (no e) = other q t h e ∙ x

  pub turn-rows : Rows f s₂ W nb
  turn-rows = record {
    gens = λ t q k h g. grows q t h (rows.gens t q k h g);
    kills = λ t q k h. kept_row b W m.frame t q h ∙ cell-before o₁ (t * (3 * W) + W) q W h (omega (arith, block-fits t nb (3 * W) k)) ∙ rows.kills t q k h;
    sound = λ q h t x. go q h t (ℕ_discrete t b) x;
  }
    where
      go : (q : ℕ) → q < 64 * W → (t : ℕ) → Dec (t ≡ b) → live_at s₂ W nb q t ≡ true → (start f t < end f t) × Live f (start f t) q
      go q h t (yes e) x =
          subst (λ (u : ℕ). (start f u < end f u) × Live f (start f u) q) (sym e)
          (⊎_elim (rows.sound q h b) (λ y. step-sound f q (live_at s W nb q) (rows.sound q h) b (or_right (gen f q b) _ y))
          (or_cases _ _ (sym (met q h) ∙ ap (live_at s₂ W nb q) (sym e) ∙ x)))
      go q h t (no e) x = rows.sound q h t (sym (other q t h e) ∙ x)

  -- where nothing changed, b is closed, and so are the blocks that were
  pub turn-same : s₂ ≡ s₁ → (q : ℕ) → q < 64 * W → live_at s₂ W nb q ≡ live_at s W nb q
  turn-same e q h = ap (λ (z : List ℕ). live_at z W nb q) e ∙ fun_ext (live-frame nb W o₁ q h)

  pub turn-closed : s₂ ≡ s₁ → (q : ℕ) → q < 64 * W → into f q (live_at s₂ W nb q) b ≡ true → live_at s₂ W nb q b ≡ true
  turn-closed e q h x =
      ⊎_elim (λ g. grows q b h (rows.gens b q known h g)) (λ y. met q h ∙ or_right (live_at s W nb q b) _ y)
      (or_cases (gen f q b) _ (ap (λ (X : ℕ → Bool). into f q X b) (sym (turn-same e q h)) ∙ x))

-- a pass that has taken i turns and is now at s
pub record Passing (ks ends refs bs s₀ s : List ℕ) (nb W : ℕ) (rising : Bool) (i : ℕ) (changed : Bool) : Type 0 where
  pub kept : length s ≡ length s₀
  pub linked : Linked bs s W nb
  pub rows : (t : ℕ → Bool) (cs : List ℕ) → Rows (seen t ks ends refs bs cs) s₀ W nb → Rows (seen t ks ends refs bs cs) s W nb
  pub grown : set_bits (nb * (3 * W)) s₀ ≤ set_bits (nb * (3 * W)) s
  pub closed : changed ≡ false → (t : ℕ → Bool) (cs : List ℕ) (q c : ℕ) → Rows (seen t ks ends refs bs cs) s₀ W nb → q < 64 * W → turn_of rising nb c < i → c < nb
      → into (seen t ks ends refs bs cs) q (live_at s W nb q) c ≡ true → live_at s W nb q c ≡ true
  pub more : changed ≡ true → set_bits (nb * (3 * W)) s₀ < set_bits (nb * (3 * W)) s

-- each turn has a block, and each block a turn
pub turn-below : (rising : Bool) (nb i b : ℕ) → b ≡ turn_of rising nb i → i < nb → b < nb
turn-below true nb i b e h = let k : b ≡ i = e in omega arith
turn-below false nb i b e h = let k : b ≡ nb - 1 - i = e in omega arith

-- the turn of another block than that of turn i comes before it, or after it
turn-other : (rising : Bool) (nb i b c : ℕ) → b ≡ turn_of rising nb i → i < nb → c < nb → turn_of rising nb c < i + 1 → (c ≡ b → ⊥) → turn_of rising nb c < i
turn-other true nb i b c e h k l n = let x : b ≡ i = e in let y : c < i + 1 = l in let z : c < i = omega arith in z
turn-other false nb i b c e h k l n = let x : b ≡ nb - 1 - i = e in let y : nb - 1 - c < i + 1 = l in let z : nb - 1 - c < i = omega arith in z

pub passes_none : (ks ends refs bs s : List ℕ) (nb W : ℕ) (rising : Bool) → Linked bs s W nb → Passing ks ends refs bs s s nb W rising 0 false
passes_none ks ends refs bs s nb W rising l =
    record { kept = refl; linked = l; rows = λ t cs r. r; grown = omega arith; closed = λ e t cs q c r h k m. absurd (omega arith); more = λ e. absurd (false≢true e) }

pub passes-end : {ks ends refs bs s₀ s : List ℕ} {nb W : ℕ} (rising : Bool) {i : ℕ} {changed : Bool} → Passing ks ends refs bs s₀ s nb W rising i changed → nb ≤ i
    → Pass ks ends refs bs s₀ s nb W changed
passes-end {nb = nb} rising {i} inv h = record {
  kept = inv.kept;
  linked = inv.linked;
  rows = inv.rows;
  closed = λ e t cs q r k b l. (let y : turn_of rising nb b < nb = turn-below rising nb b (turn_of rising nb b) refl l in inv.closed e t cs q b r k (omega arith) l);
  more = inv.more;
}

module _ {ks ends refs bs s₀ s : List ℕ} {nb W i b : ℕ} {rising changed grown : Bool} (inv : Passing ks ends refs bs s₀ s nb W rising i changed) (low : i < nb)
    (turn : b ≡ turn_of rising nb i) (s₁ s₂ : List ℕ)
    (o₁ : Outside s s₁ (nb * (3 * W)) W)
    (c₁ : (t : ℕ → Bool) (cs : List ℕ) (q : ℕ) → q < 64 * W → cell s₁ (nb * (3 * W)) q ≡ out (seen t ks ends refs bs cs) (live_at s W nb q) b)
    (m : Met s₁ s₂ (nb * (3 * W)) W (b * (3 * W)) (nb * (3 * W)) (b * (3 * W) + W) grown)
  where
    known : b < nb
    known = turn-below rising nb i b turn low

    sum₁ : set_bits (nb * (3 * W)) s₁ ≡ set_bits (nb * (3 * W)) s
    sum₁ = bits-kept (nb * (3 * W)) (omega arith) o₁

    rows₂ : (t : ℕ → Bool) (cs : List ℕ) → Rows (seen t ks ends refs bs cs) s₀ W nb → Rows (seen t ks ends refs bs cs) s₂ W nb
    rows₂ t cs r = turn-rows (seen t ks ends refs bs cs) s s₁ s₂ nb W b grown known (inv.rows t cs r) o₁ (c₁ t cs) m

    linked₂ : Linked bs s₂ W nb
    linked₂ = linked-live b known (linked-out inv.linked o₁) m.frame

    pass-grown : grown ≡ true → Passing ks ends refs bs s₀ s₂ nb W rising (i + 1) true
    pass-grown g =
        record {
          kept = m.frame.kept ∙ o₁.kept ∙ inv.kept;
          linked = linked₂;
          rows = rows₂;
          grown = omega (arith, inv.grown, sum₁, m.more g);
          closed = λ e. absurd (true≢false e);
          more = λ e. omega (arith, inv.grown, sum₁, m.more g);
        }

    pass-still : grown ≡ false → Passing ks ends refs bs s₀ s₂ nb W rising (i + 1) changed
    pass-still g =
        record {
          kept = m.frame.kept ∙ o₁.kept ∙ inv.kept;
          linked = linked₂;
          rows = rows₂;
          grown = omega (arith, inv.grown, sum₁, sum₂);
          closed = closed';
          more = λ h. omega (arith, inv.more h, sum₁, sum₂);
        }
      where
        sum₂ : set_bits (nb * (3 * W)) s₂ ≡ set_bits (nb * (3 * W)) s₁
        sum₂ = ap (set_bits (nb * (3 * W))) (m.same g)

        closed' : changed ≡ false → (t : ℕ → Bool) (cs : List ℕ) (q c : ℕ) → Rows (seen t ks ends refs bs cs) s₀ W nb → q < 64 * W → turn_of rising nb c < i + 1 → c < nb
            → into (seen t ks ends refs bs cs) q (live_at s₂ W nb q) c ≡ true → live_at s₂ W nb q c ≡ true
        closed' h t cs q c r l before hi x = go (ℕ_discrete c b)
          where
            same : live_at s₂ W nb q ≡ live_at s W nb q
            same = turn-same (seen t ks ends refs bs cs) s s₁ s₂ nb W b grown known (inv.rows t cs r) o₁ (c₁ t cs) m (m.same g) q l

            go : Dec (c ≡ b) → live_at s₂ W nb q c ≡ true
            go (yes d) =
                ap (live_at s₂ W nb q) d
                ∙ turn-closed (seen t ks ends refs bs cs) s s₁ s₂ nb W b grown known (inv.rows t cs r) o₁ (c₁ t cs) m (m.same g) q l
                (ap (λ (u : ℕ). into (seen t ks ends refs bs cs) q (live_at s₂ W nb q) u) (sym d) ∙ x)
            go (no d) =
                ap (λ (X : ℕ → Bool). X c) same
                ∙ inv.closed h t cs q c r l (turn-other rising nb i b c turn low hi before d) hi (ap (λ (X : ℕ → Bool). into (seen t ks ends refs bs cs) q X c) (sym same) ∙ x)

    pub pass-on : {now : Bool} → ((grown ≡ true) × (now ≡ true)) ⊎ ((grown ≡ false) × (now ≡ changed)) → Passing ks ends refs bs s₀ s₂ nb W rising (i + 1) now
    pass-on (inl (g, e)) = subst (Passing ks ends refs bs s₀ s₂ nb W rising (i + 1)) (sym e) (pass-grown g)
    pass-on (inr (g, e)) = subst (Passing ks ends refs bs s₀ s₂ nb W rising (i + 1)) (sym e) (pass-still g)

pub record Solving (ks ends refs bs s₀ s : List ℕ) (nb W : ℕ) : Type 0 where
  pub kept : length s ≡ length s₀
  pub linked : Linked bs s W nb
  pub rows : (t : ℕ → Bool) (cs : List ℕ) → Rows (seen t ks ends refs bs cs) s₀ W nb → Rows (seen t ks ends refs bs cs) s W nb

-- the live-in rows at the end are the least fixpoint
pub solved-fixed : {ks ends refs bs s₀ s : List ℕ} {nb W : ℕ} (t : ℕ → Bool) (cs : List ℕ) → Solved ks ends refs bs s₀ s nb W → Rows (seen t ks ends refs bs cs) s₀ W nb
    → Disjoint (seen t ks ends refs bs cs) → length (seen t ks ends refs bs cs).blocks ≡ nb → Fixed (seen t ks ends refs bs cs) bs s W nb
solved-fixed {ks} {ends} {refs} {bs} {s₀} {s} {nb} {W} t cs v r d size = record {
  linked = λ h. v.linked;
  lives = λ b q h. fixpoint-is (seen t ks ends refs bs cs) q (live_at s W nb q) d ((v.rows t cs r).sound q h) (λ c k. v.closed t cs q r h c (omega (arith, size))) b;
}

-- the block that block b falls through to
pub linked-next : {bs s : List ℕ} {W nb : ℕ} → Linked bs s W nb → (b st e v : ℕ) → b < nb → st ≡ get_or bs (2 * b) 0 → e ≡ get_or bs (2 * b + 1) 0 → st < e
    → v ≡ get_or s (b * (3 * W) + 2 * W) 0 → first_at (tabulate nb (block_at bs)) e 0 ≡ one_below v nb
linked-next {bs} {s} {W} {nb} l b st e v known est ee h ev =
    ap (λ (u : ℕ). first_at (tabulate nb (block_at bs)) u 0) ee ∙ l.next b known (omega arith) ∙ ap (λ (u : ℕ). one_below u nb) (sym ev)
