use Rattle.text.specs.Inner.Answer.{hex_at}
use Rattle.planes.proofs.Turns.{Scattered}
use Rattle.planes.proofs.scatter.Given as goal

abbrev pub invariant-loop-j : goal.invariant-loop-j
invariant-loop-j l = Scattered l.n (hex_at l.hex.text.now l.hex.at) l.d l.j
