-- `heap::asked::count_in_use` meets its contract: the kinds so far are counted.
use Rattle.std.proofs.Common.{◌≡◌, ◌≤◌, eqb, length, not, take}
use Rattle.std.specs.List.{filter}
use Rattle.heap.proofs.asked.count_in_use.Given as goal

abbrev pub invariant-loop-kind : goal.invariant-loop-kind
invariant-loop-kind l = (l.count ≤ l.kind-index) × (l.count ≡ length (filter (λ kind. not (eqb kind 0)) (take l.kind-index l.kinds)))
