-- `compare::raise_all` meets its contract.
use Rattle.compare.proofs.TurnsPut.{Raising}
use Rattle.compare.proofs.raise_all.Given as goal

abbrev pub invariant-loop-word : goal.invariant-loop-word
invariant-loop-word l = Raising l.n l.initial.work l.work l.word-index
