-- `heap_check::aged` meets its contract. The invariant: the slots passed have such generations.
use Rattle.heap_check.proofs.CheckLoops.{Ageing}
use Rattle.heap_check.proofs.aged.Given as goal

abbrev pub invariant-loop-entry : goal.invariant-loop-entry
invariant-loop-entry l = Ageing l.generation l.low l.high l.list l.entry-index
