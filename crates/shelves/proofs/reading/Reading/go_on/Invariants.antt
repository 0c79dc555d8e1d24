-- The invariant: what was printed and what is left are together what was left at the start.
use Prim.Native.Nat.{◌-◌}
use mathlib.Core.Path.{◌≡◌}
use lib.ListN.{length}
use Rattle.shelves.proofs.Going.{Gone}
use Rattle.shelves.proofs.reading.Reading.go_on.Given as goal

abbrev pub invariant-loop-used : goal.invariant-loop-used
invariant-loop-used l =
    Gone l.initial.self.shelf l.initial.self.held l.input l.initial.page.page.now l.self.shelf l.self.held l.page.page.now l.used l.page.at
    × (l.page.page.ghost_name ≡ l.initial.page.page.ghost_name) × (length l.page.page.now ≡ 65536)

abbrev pub decreases-loop-used : goal.decreases-loop-used
decreases-loop-used l = length l.input - l.used
