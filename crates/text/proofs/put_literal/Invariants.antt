-- `text::put_literal` meets its contract: i bytes are put.
use lib.ListN.{length, take}
use mathlib.Core.Path.{◌≡◌}
use Prim.Native.Nat.{◌+◌}
use Rattle.text.specs.Inner.Puts.{Puts}
use Rattle.text.proofs.put_literal.Given as goal

abbrev pub invariant-loop-i : goal.invariant-loop-i
invariant-loop-i l = (length l.out ≡ length l.initial.out) × Puts l.initial.out l.out l.at (l.at + l.i) (take l.i l.literal)
