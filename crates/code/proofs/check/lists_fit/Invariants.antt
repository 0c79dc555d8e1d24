-- `code::check::lists_fit` meets its contract.
use lib.ListN.{length}
use Rattle.code.proofs.Checks.{Upto, Fine}
use Rattle.code.proofs.check.lists_fit.Given as goal

abbrev pub invariant-loop-k : goal.invariant-loop-k
invariant-loop-k l = Upto (Fine l.ends l.refs) (length l.ends) l.k
