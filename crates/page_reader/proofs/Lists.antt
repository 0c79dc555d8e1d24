-- The quarantine, the retired and the seals of a page, put into their runs. Assumes nothing.
use Prim.Native.Nat.{ℕ, ◌+◌, ◌-◌, ◌*◌, ◌/◌, ◌≤◌}
use mathlib.Core.List.{List, ◌++◌}
use mathlib.Core.Path.{◌≡◌, refl, ap, ◌∙◌}
use lib.ListN.{length, take, drop}
use native.Mathlib.Omega.{arith}
use borrow.Rule.Slice.PartMut.{put_mid, same_len_mid}
use Rattle.word.specs.Run.{run}
use Rattle.word.proofs.RunLaws.{run-part, length_run, lent-run, lent-above, lent_below, lent-past}
use Rattle.text.specs.Put.{put_text}
use Rattle.heap.specs.Lent.{Lent, columns, cut}
use Rattle.heap.specs.declared.Heap.{Heap}
use Rattle.heap.proofs.Runs.{recount, with-quarantine, with-retired, with-sealed}
use Rattle.page_reader.specs.Inner.Columns.{ListsFilled}

-- a run lent and returned
module _ (h : Heap) (S : ℕ) (narrow wide pool ys : List ℕ) (long : length ys ≡ S) where
  abbrev l : Lent
  l = cut h S narrow wide pool

  lent-quarantine : 5 * S ≤ length narrow → cut h S (put_mid (4 * S) (5 * S - 4 * S) narrow ys) wide pool ≡ with-quarantine l ys
  lent-quarantine room =
      let sum : 5 * S ≡ 4 * S + S = omega arith in
      λ j. columns h S (lent_below S (4 * S) (5 * S) narrow ys sum room long 0 (omega arith) j) (lent_below S (4 * S) (5 * S) narrow ys sum room long S (omega arith) j)
      (lent_below S (4 * S) (5 * S) narrow ys sum room long (2 * S) (omega arith) j) l.start l.end l.writes pool (lent_below S (4 * S) (5 * S) narrow ys sum room long (3 * S) (omega arith) j)
      (lent-run S (4 * S) (5 * S) narrow ys sum room long j) l.sealed (lent-above S (4 * S) (5 * S) narrow ys sum room long (5 * S) (omega arith) j)
      (lent-past S (4 * S) (5 * S) narrow ys sum room long (6 * S) (omega arith) j ++ drop (4 * S) wide)

  lent-retired : 6 * S ≤ length narrow → cut h S (put_mid (5 * S) (6 * S - 5 * S) narrow ys) wide pool ≡ with-retired l ys
  lent-retired room =
      let sum : 6 * S ≡ 5 * S + S = omega arith in
      λ j. columns h S (lent_below S (5 * S) (6 * S) narrow ys sum room long 0 (omega arith) j) (lent_below S (5 * S) (6 * S) narrow ys sum room long S (omega arith) j)
      (lent_below S (5 * S) (6 * S) narrow ys sum room long (2 * S) (omega arith) j) l.start l.end l.writes pool (lent_below S (5 * S) (6 * S) narrow ys sum room long (3 * S) (omega arith) j)
      (lent_below S (5 * S) (6 * S) narrow ys sum room long (4 * S) (omega arith) j) l.sealed (lent-run S (5 * S) (6 * S) narrow ys sum room long j)
      (lent-past S (5 * S) (6 * S) narrow ys sum room long (6 * S) (omega arith) j ++ drop (4 * S) wide)

  lent-sealed : 4 * S ≤ length wide → cut h S narrow (put_mid (3 * S) (4 * S - 3 * S) wide ys) pool ≡ with-sealed l ys
  lent-sealed room =
      let sum : 4 * S ≡ 3 * S + S = omega arith in
      λ j. columns h S l.generation l.kind l.type (lent_below S (3 * S) (4 * S) wide ys sum room long 0 (omega arith) j) (lent_below S (3 * S) (4 * S) wide ys sum room long S (omega arith) j)
      (lent_below S (3 * S) (4 * S) wide ys sum room long (2 * S) (omega arith) j) pool l.free l.quarantine (lent-run S (3 * S) (4 * S) wide ys sum room long j) l.retired
      (drop (6 * S) narrow ++ lent-past S (3 * S) (4 * S) wide ys sum room long (4 * S) (omega arith) j)

-- the part of a list that holds a run, whose length is known
part_length : (S at to : ℕ) (xs : List ℕ) → to ≡ at + S → to ≤ length xs → length (take (to - at) (drop at xs)) ≡ S
part_length S at to xs e r = ap length (run-part S at xs at to refl e) ∙ length_run S at xs (omega arith)

pub part_room : (S at to n : ℕ) (xs : List ℕ) → to ≡ at + S → to ≤ length xs → n ≤ S → n ≤ length (take (to - at) (drop at xs))
part_room S at to n xs e r h = omega (arith, part_length S at to xs e r)

pub quarantine-room : (narrow : List ℕ) (n : ℕ) → n ≤ length narrow / 6 → n ≤ length (take (5 * (length narrow / 6) - 4 * (length narrow / 6)) (drop (4 * (length narrow / 6)) narrow))
quarantine-room narrow n h = part_room (length narrow / 6) (4 * (length narrow / 6)) (5 * (length narrow / 6)) n narrow (omega arith) (omega arith) h

-- once the quarantine is there
pub retired_room : (narrow ys : List ℕ) (n : ℕ) → length ys ≡ length (take (5 * (length narrow / 6) - 4 * (length narrow / 6)) (drop (4 * (length narrow / 6)) narrow)) → n ≤ length narrow / 6 →
    n ≤ length (take (6 * (length narrow / 6) - 5 * (length narrow / 6)) (drop (5 * (length narrow / 6)) (put_mid (4 * (length narrow / 6)) (5 * (length narrow / 6) - 4 * (length narrow / 6)) narrow ys)))
retired_room narrow ys n e h =
    let S : ℕ = length narrow / 6 in
    part_room S (5 * S) (6 * S) n (put_mid (4 * S) (5 * S - 4 * S) narrow ys) (omega arith) (omega (arith, same_len_mid (4 * S) (5 * S - 4 * S) narrow ys e)) h

module _ (narrow wide : List ℕ) (q r z ys₁ ys₂ ys₃ : List ℕ) where
  abbrev S : ℕ
  S = length narrow / 6

  abbrev narrow₁ : List ℕ
  narrow₁ = put_mid (4 * S) (5 * S - 4 * S) narrow ys₁

  pub lists_filled :
      4 * (length narrow / 6) ≤ length wide →
      ys₁ ≡ put_text (take (5 * (length narrow / 6) - 4 * (length narrow / 6)) (drop (4 * (length narrow / 6)) narrow)) 0 q →
      length ys₁ ≡ length (take (5 * (length narrow / 6) - 4 * (length narrow / 6)) (drop (4 * (length narrow / 6)) narrow)) →
      ys₂ ≡ put_text (take (6 * (length narrow / 6) - 5 * (length narrow / 6)) (drop (5 * (length narrow / 6)) (put_mid (4 * (length narrow / 6)) (5 * (length narrow / 6) - 4 * (length narrow / 6)) narrow ys₁))) 0 r →
      length ys₂ ≡ length (take (6 * (length narrow / 6) - 5 * (length narrow / 6)) (drop (5 * (length narrow / 6)) (put_mid (4 * (length narrow / 6)) (5 * (length narrow / 6) - 4 * (length narrow / 6)) narrow ys₁))) →
      ys₃ ≡ put_text (take (4 * (length narrow / 6) - 3 * (length narrow / 6)) (drop (3 * (length narrow / 6)) wide)) 0 z →
      length ys₃ ≡ length (take (4 * (length narrow / 6) - 3 * (length narrow / 6)) (drop (3 * (length narrow / 6)) wide)) →
      ListsFilled narrow wide (put_mid (5 * (length narrow / 6)) (6 * (length narrow / 6) - 5 * (length narrow / 6)) (put_mid (4 * (length narrow / 6)) (5 * (length narrow / 6) - 4 * (length narrow / 6)) narrow ys₁) ys₂)
      (put_mid (3 * (length narrow / 6)) (4 * (length narrow / 6) - 3 * (length narrow / 6)) wide ys₃) q r z
  lists_filled room e₁ n₁ e₂ n₂ e₃ n₃ =
      let long₁ : length ys₁ ≡ S = n₁ ∙ part_length S (4 * S) (5 * S) narrow (omega arith) (omega arith) in
      let same₁ : length narrow₁ ≡ length narrow = same_len_mid (4 * S) (5 * S - 4 * S) narrow ys₁ n₁ in
      let long₂ : length ys₂ ≡ S = n₂ ∙ part_length S (5 * S) (6 * S) narrow₁ (omega arith) (omega arith) in
      let same₂ : length (put_mid (5 * S) (6 * S - 5 * S) narrow₁ ys₂) ≡ length narrow = same_len_mid (5 * S) (6 * S - 5 * S) narrow₁ ys₂ n₂ ∙ same₁ in
      let long₃ : length ys₃ ≡ S = n₃ ∙ part_length S (3 * S) (4 * S) wide (omega arith) room in
      let wide₁ : List ℕ = put_mid (3 * S) (4 * S - 3 * S) wide ys₃ in
      let sum : 5 * S ≡ 4 * S + S = omega arith in
      let q-is : ys₁ ≡ put_text (run S (4 * S) narrow) 0 q = e₁ ∙ ap (λ (t : List ℕ). put_text t 0 q) (run-part S (4 * S) narrow (4 * S) (5 * S) refl sum) in
      let beside : run S (5 * S) narrow₁ ≡ run S (5 * S) narrow = lent-above S (4 * S) (5 * S) narrow ys₁ sum (omega arith) long₁ (5 * S) (omega arith) in
      let r-is : ys₂ ≡ put_text (run S (5 * S) narrow) 0 r =
      e₂ ∙ ap (λ (t : List ℕ). put_text t 0 r) (run-part S (5 * S) narrow₁ (5 * S) (6 * S) refl (omega arith) ∙ beside) in
      let z-is : ys₃ ≡ put_text (run S (3 * S) wide) 0 z = e₃ ∙ ap (λ (t : List ℕ). put_text t 0 z) (run-part S (3 * S) wide (3 * S) (4 * S) refl (omega arith)) in
      record {
        lists = λ h pool.
            recount h narrow (put_mid (5 * S) (6 * S - 5 * S) narrow₁ ys₂) wide₁ pool same₂
            ∙ lent-retired h S narrow₁ wide₁ pool ys₂ long₂ (omega arith)
            ∙ ap (λ (x : Lent). with-retired x ys₂) (lent-quarantine h S narrow wide₁ pool ys₁ long₁ (omega arith))
            ∙ ap (λ (x : Lent). with-retired (with-quarantine x ys₁) ys₂) (lent-sealed h S narrow wide pool ys₃ long₃ room)
            ∙ (let l : Lent = cut h S narrow wide pool in
            λ j. columns h S l.generation l.kind l.type l.start l.end l.writes pool l.free (q-is j) (z-is j) (r-is j) l.over);
      }
