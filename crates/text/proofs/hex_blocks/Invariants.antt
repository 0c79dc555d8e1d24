-- `text::hex_blocks` meets its contract. The invariant: up to i there are digits alone.
use Prim.Native.Nat.{◌-◌, ◌/◌}
use lib.ListN.{length}
use Rattle.text.specs.Inner.Answer.{HexRun}
use Rattle.text.proofs.hex_blocks.Given as goal

abbrev pub invariant-loop-i : goal.invariant-loop-i
invariant-loop-i l = HexRun l.s l.at l.i ((l.i - l.at) / 2)

abbrev pub decreases-loop-i : goal.decreases-loop-i
decreases-loop-i l = length l.s - l.i
