-- `View::data` meets its contract.
use Rattle.std.proofs.lemmas.Result.{err_from_is_err_and}
use Rattle.std.proofs.Common.{Ok, ap, ◌∙◌}
use Rattle.heap.specs.Inner.Seen.{state}
use Rattle.heap.proofs.Questions.{place-told}
use Rattle.heap.proofs.view.View.data.Goals as goal

pub returns-in_err-visible : goal.returns-in_err-visible
returns-in_err-visible c = let p = err_from_is_err_and c.from_residual.result c.from_residual.ensures.1 in rw (p.1, p.2) (place-told (state c.args.self) _ c.in_err-visible.was c.visible.ensures)

pub returns-in-None : goal.returns-in-None
returns-in-None c = place-told (state c.args.self) _ (c.in_ok-visible.was ∙ ap Ok c.in-None.is) c.visible.ensures

pub returns-in-Some : goal.returns-in-Some
returns-in-Some c = place-told (state c.args.self) _ (c.in_ok-visible.was ∙ ap Ok c.in-Some.is) c.visible.ensures
