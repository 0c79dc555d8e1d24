-- `heap_check::mark` meets its contract. The invariant: the entries passed are marked, each once.
use Rattle.heap_check.proofs.CheckLoops.{Marking}
use Rattle.heap_check.proofs.mark.Given as goal

abbrev pub invariant-loop-entry : goal.invariant-loop-entry
invariant-loop-entry l = Marking l.n l.kind l.initial.marks l.marks l.list l.entry-index
