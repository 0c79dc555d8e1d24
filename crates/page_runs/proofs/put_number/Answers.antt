-- `page_runs::put_number` meets its contract.
use native.Mathlib.Omega.{arith}
use Rattle.text.proofs.Laws.{digits-few}
use Rattle.page_runs.proofs.Telling.{number_put}
use Rattle.page_runs.proofs.put_number.Goals as goal

pub put_decimal-k-requires : goal.put_decimal-k-requires
put_decimal-k-requires c = omega (arith, digits-few c.args.number (omega arith))

pub put_literal-requires : goal.put_literal-requires
put_literal-requires c = omega (arith, digits-few c.args.number (omega arith), c.put_decimal-k.ensures.next)

pub returns : goal.returns
returns c = number_put _ (omega arith) c.put_decimal-k.ensures c.put_literal.ensures
