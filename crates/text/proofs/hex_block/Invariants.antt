use Rattle.text.proofs.Getting.{Looking}
use Rattle.text.proofs.hex_block.Given as goal

abbrev pub invariant-loop-b : goal.invariant-loop-b
invariant-loop-b l = Looking l.s l.at l.b-index l.all
