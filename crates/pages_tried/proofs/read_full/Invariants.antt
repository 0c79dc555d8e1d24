-- `pages_tried::read_full`: what came lies in the list.
use Rattle.std.proofs.Common.{◌≤◌, length}
use Rattle.pages_tried.proofs.read_full.Given as goal

abbrev pub invariant-loop : goal.invariant-loop
invariant-loop g l = l.n ≤ length l.list
