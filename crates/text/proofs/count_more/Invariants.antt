use Rattle.text.specs.Inner.Answer.{hex_more}
use Rattle.text.specs.Reading.{read_hex}
use lib.ListN.{length, drop}
use mathlib.Core.Path.{◌≡◌}
use Prim.Native.Nat.{◌-◌, ◌≤◌}
use Rattle.text.proofs.count_more.Given as goal

abbrev pub invariant-loop-a : goal.invariant-loop-a
invariant-loop-a l = (l.n ≤ l.i) × (hex_more (length l.s) l.count (read_hex (drop l.first l.s)) ≡ hex_more (length l.s) l.n (read_hex (drop l.i l.s)))

abbrev pub decreases-loop-a : goal.decreases-loop-a
decreases-loop-a l = length l.s - l.i
