use Prim.Native.Nat.{◌≤◌}
use Rattle.text.specs.Reading.{scan}
use lib.ListN.{length, drop}
use mathlib.Core.Path.{◌≡◌}
use Rattle.text.proofs.get_more.Given as goal

abbrev pub invariant-loop-i : goal.invariant-loop-i
invariant-loop-i l = (l.n ≤ l.most) × (l.i ≤ length l.s) × (scan l.first (drop l.start l.s) ≡ scan l.n (drop l.i l.s))
