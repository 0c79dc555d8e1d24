-- `liveness::fixpoint::join` meets its contract.
use Rattle.liveness.proofs.Scratch.{Joins}
use Rattle.liveness.proofs.fixpoint.join.Given as goal

abbrev pub invariant-loop-w : goal.invariant-loop-w
invariant-loop-w l = Joins l.initial.s l.s l.dst l.src l.words l.w
