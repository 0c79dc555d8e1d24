use Rattle.text.specs.Inner.Answer.{hex_at}
use Rattle.text.proofs.Putting.{Copies}
use Rattle.text.proofs.hex.Hex.copy.Given as goal

abbrev pub invariant-loop-i : goal.invariant-loop-i
invariant-loop-i l = Copies l.initial.out l.out l.to l.i (hex_at l.fn.self.text.now l.fn.self.at)
