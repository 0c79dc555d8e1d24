-- An input that is gone through in parts: what is left to be printed is what is printed for all of it. Assumes nothing.
use Prim.Native.Nat.{ℕ, ◌+◌, ◌-◌, ◌≤◌}
use mathlib.Core.Bool.{Bool}
use mathlib.Core.List.{List, [], ◌++◌, append_assoc, append-nil}
use mathlib.Core.Path.{◌≡◌, sym, ap, ◌∙◌, subst}
use native.Mathlib.Omega.{arith}
use lib.ListN.{length, take, drop, length-drop, take-append-drop}
use lib.Seq.{take_all, length-take-le}
use Rattle.word.specs.Put.{put}
use Rattle.word.proofs.PutLaws.{take_put}
use Rattle.heap.specs.Lent.{Lent, view}
use Rattle.page_runs.specs.declared.Run.{Run}
use Rattle.page_runs.specs.Printed.{printed}
use Rattle.page_runs.specs.Steps.{text_left, Begun, Goes, Ends}

-- `rest` is the input that is not yet read
pub record Going (input : List ℕ) (r : Run) (l : Lent) (buf rest : List ℕ) : Type 0 where
  pub same : (failed : Bool) → printed failed input ≡ text_left r.at failed (view l) (take r.held buf ++ rest)

pub going-first : (input : List ℕ) {r : Run} {l : Lent} (buf : List ℕ) → Begun r l → Going input r l buf input
going-first input {r} {l} buf b =
    record { same = λ failed. b.same failed input ∙ ap (λ (n : ℕ). text_left r.at failed (view l) (take n buf ++ input)) (sym b.none) }

module _ {input : List ℕ} {r : Run} {l : Lent} {buf rest : List ℕ} (g : Going input r l buf rest) where
  module _ (more : ℕ) (inside : more ≤ length rest) (room : r.held + more ≤ 65536) (size : length buf ≡ 65536)
      (b₁ : List ℕ) (copied : b₁ ≡ put buf r.held (take more rest) (length (take more rest))) where
    long : length (take more rest) ≡ more
    long = length-take-le more rest inside

    taken : take (r.held + more) b₁ ≡ take r.held buf ++ take more rest
    taken =
        ap (take (r.held + more)) (copied ∙ ap (put buf r.held (take more rest)) long)
        ∙ take_put buf r.held (take more rest) more (omega arith) (omega (arith, long))
        ∙ ap (λ (x : List ℕ). take r.held buf ++ x) (take_all more (take more rest) (omega (arith, long)))

    pub going_on : {r' : Run} {l' : Lent} {b₂ : List ℕ} → Goes r.at l (take (r.held + more) b₁) r' l' b₂ → Going input r' l' b₂ (take (length rest - more) (drop more rest))
    going_on {r'} {l'} {b₂} t =
        let after : take (length rest - more) (drop more rest) ≡ drop more rest = take_all (length rest - more) (drop more rest) (omega (arith, length-drop more rest)) in
        subst (Going input r' l' b₂) (sym after)
        (record {
          same = λ failed.
              g.same failed
              ∙ ap (λ (x : List ℕ). text_left r.at failed (view l) x)
              (ap (λ (x : List ℕ). take r.held buf ++ x) (sym (take-append-drop more rest)) ∙ sym (append_assoc (take r.held buf) (take more rest) (drop more rest))
              ∙ ap (λ (x : List ℕ). x ++ drop more rest) (sym taken))
              ∙ t.same failed (drop more rest);
        })

  pub going_end : (failed : Bool) {out : List ℕ} {to : ℕ} → rest ≡ [] → Ends (text_left r.at failed (view l) (take r.held buf)) out to → Ends (printed failed input) out to
  going_end failed {out} {to} h e =
      subst (λ (t : List ℕ). Ends t out to)
      (sym (g.same failed ∙ ap (λ (x : List ℕ). text_left r.at failed (view l) (take r.held buf ++ x)) h ∙ ap (text_left r.at failed (view l)) (append-nil (take r.held buf)))) e
