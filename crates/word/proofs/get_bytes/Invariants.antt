use Rattle.word.proofs.Gets.{Inv}
use Rattle.word.proofs.get_bytes.Given as goal

abbrev pub invariant-loop-i : goal.invariant-loop-i
invariant-loop-i l = Inv l.s l.at l.n l.v l.i
