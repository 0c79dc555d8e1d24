-- `compare::put_each` meets its contract.
use Rattle.compare.proofs.TurnsPut.{Turning}
use Rattle.compare.proofs.put_each.Given as goal

abbrev pub invariant-loop-i : goal.invariant-loop-i
invariant-loop-i l = Turning l.initial.work l.n l.work l.i
