use Rattle.text.specs.Inner.Answer.{hex_at}
use Rattle.planes.proofs.Turns.{Placing}
use Rattle.planes.proofs.scatter_plane.Given as goal

abbrev pub invariant-loop-i : goal.invariant-loop-i
invariant-loop-i l = Placing l.n (hex_at l.hex.text.now l.hex.at) l.d l.j l.i
