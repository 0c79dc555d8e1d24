use mathlib.Core.Path.{◌≡◌}
use lib.ListN.{length, drop}
use Rattle.tables.specs.Reading.{read_name}
use Rattle.tables.specs.Inner.Answer.{ending}
use Rattle.tables.proofs.get_name.Given as goal

abbrev pub invariant-loop-i : goal.invariant-loop-i
invariant-loop-i l = ending (length l.s) (read_name (drop l.at l.s)) ≡ ending (length l.s) (read_name (drop l.i l.s))
