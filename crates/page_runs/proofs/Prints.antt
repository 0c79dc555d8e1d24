-- A RUN PRINTS what is defined for its whole input. Assumes nothing.
use Prim.Native.Nat.{ℕ}
use mathlib.Core.Bool.{Bool}
use mathlib.Core.List.{List, ◌++◌, append_assoc, append-nil}
use mathlib.Core.Path.{◌≡◌, sym, ap, ◌∙◌}
use lib.ListN.{take}
use Rattle.heap.specs.Lent.{Lent, view}
use Rattle.page_runs.specs.declared.At.{At}
use Rattle.page_runs.specs.declared.At.TheVariants.{Over}
use Rattle.page_runs.specs.declared.Run.{Run}
use Rattle.page_runs.specs.Runs.{Runs, ended, over, goes, RunPrints}
use Rattle.page_runs.specs.Steps.{text_left}

-- nothing more is looked at
over-left : (at : At) (n : ℕ) (failed : Bool) (l : Lent) (t u : List ℕ) → at ≡ Over n → text_left at failed (view l) t ≡ text_left at failed (view l) u
unfolding text_left
over-left at n failed l t u e = ap (λ (x : At). text_left x failed (view l) t) e ∙ sym (ap (λ (x : At). text_left x failed (view l) u) e)

run-text : {failed : Bool} {r : Run} {l : Lent} {buf input text : List ℕ} → Runs failed r l buf input text → text ≡ text_left r.at failed (view l) (take r.held buf ++ input)
run-text {failed} (ended {r} {l} {buf} i e x) =
    x ∙ e.same ∙ ap (text_left r.at failed (view l)) (sym (append-nil (take r.held buf)) ∙ ap (λ (y : List ℕ). take r.held buf ++ y) (sym i))
run-text {failed} (over {r} {l} {buf} {input} {text} {out} {to} {n} z e x) = x ∙ e.same ∙ over-left r.at n failed l (take r.held buf) (take r.held buf ++ input) z
run-text {failed} (goes {r} {r'} {l} {l'} {buf} {buf'} {input} part rest full i f g more) =
    run-text more ∙ sym (g.same failed rest)
    ∙ ap (text_left r.at failed (view l))
    (ap (λ (x : List ℕ). x ++ rest) f ∙ append_assoc (take r.held buf) part rest ∙ ap (λ (x : List ℕ). take r.held buf ++ x) (sym i))

pub run-prints : RunPrints
run-prints failed r l buf input text b run =
    run-text run ∙ ap (λ (n : ℕ). text_left r.at failed (view l) (take n buf ++ input)) b.none ∙ sym (b.same failed input)
