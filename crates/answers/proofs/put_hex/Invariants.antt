-- `answers::put_hex` keeps the size of the parts.
use mathlib.Core.Path.{◌≡◌}
use Rattle.answers.proofs.put_hex.Given as goal

abbrev pub invariant-loop-part : goal.invariant-loop-part
invariant-loop-part g l =
    (goal.iterator-loop-part g).can_next l.part-iterator ×
    (goal.iterator-loop-part g).is_finite l.part-iterator ×
    (l.part-iterator.size ≡ 4096)
