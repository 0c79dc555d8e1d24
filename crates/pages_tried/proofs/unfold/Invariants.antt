-- `pages_tried::unfold`: what was put lies in the array.
use Rattle.std.proofs.Common.{◌≤◌}
use Rattle.pages_tried.proofs.unfold.Given as goal

abbrev pub invariant-loop-b : goal.invariant-loop-b
invariant-loop-b l = l.n ≤ 262144
