-- `heap_edit::resolve` meets its contract.
use Rattle.std.proofs.Common.{ap}
use Rattle.std.proofs.lemmas.Result.{err_from_is_err_and}
use Rattle.refusal.specs.Told.{answered, here, nothing}
use Rattle.heap_edit.proofs.resolve.Goals as goal

pub returns-in_err-i : goal.returns-in_err-i
returns-in_err-i c = let p = err_from_is_err_and c.from_residual.result c.from_residual.ensures.1 in rw (p.1, p.2) (ap (answered here nothing) c.in_err-i.ensures)

pub returns : goal.returns
returns c = ap (answered here nothing) c.in_ok-i.ensures
