use Rattle.planes.specs.Inner.Steps.{Summing}
use Rattle.planes.proofs.sum_up.Given as goal

abbrev pub invariant-loop-i : goal.invariant-loop-i
invariant-loop-i l = Summing 8 l.n l.initial.d l.d l.i l.b
