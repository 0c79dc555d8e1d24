use native.Mathlib.Omega.{arith}
use Rattle.page_runs.proofs.Going.{going-first, going_on}
use Rattle.page_runs.proofs.print_all_with.Goals as goal

pub loop-rest-init : goal.loop-rest-init
loop-rest-init c = going-first _ _ c.begin-running.ensures

pub loop-rest-preserved : goal.loop-rest-preserved
loop-rest-preserved c = going_on c.loop-rest.invariant c.min-more.result (omega arith) (omega (arith, c.loop-rest.running.good.room)) (omega arith) _ c.copy.ensures c.go_on.ensures
