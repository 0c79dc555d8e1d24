-- `heap_check::covered` meets its contract. The invariant: all is so exactly if the slots passed are live or marked.
use Rattle.heap_check.proofs.CheckLoops.{Covering}
use Rattle.heap_check.proofs.covered.Given as goal

abbrev pub invariant-loop-i : goal.invariant-loop-i
invariant-loop-i l = Covering l.n l.kind l.marks l.i l.all
