-- The invariant: what is left to be printed is what is printed for all of the input.
use lib.ListN.{length}
use Rattle.page_runs.specs.Inner.Held.{lies}
use Rattle.page_runs.proofs.Going.{Going}
use Rattle.page_runs.proofs.print_all_with.Given as goal

abbrev pub invariant-loop-rest : goal.invariant-loop-rest
invariant-loop-rest l = Going l.input l.running.run (lies l.running) l.buf l.rest

abbrev pub decreases-loop-rest : goal.decreases-loop-rest
decreases-loop-rest l = length l.rest
