use Rattle.text.specs.Inner.Puts.{Puts}
use Rattle.text.specs.Text.{hex}
use lib.ListN.{take}
use Rattle.text.proofs.put_hex.Given as goal

abbrev pub invariant-loop-b : goal.invariant-loop-b
invariant-loop-b l = Puts l.initial.out l.out l.at l.k (hex (take l.b-index l.bytes))
