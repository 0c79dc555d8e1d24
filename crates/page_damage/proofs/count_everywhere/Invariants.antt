-- `page_damage::count_everywhere`: a place is counted once at most.
use Rattle.std.proofs.Common.{◌≤◌, ℕ, slice_index_or}
use Rattle.page_damage.proofs.count_everywhere.Given as goal

abbrev pub invariant-loop-at : goal.invariant-loop-at
invariant-loop-at l = (k : ℕ) → slice_index_or l.counts k 0 ≤ l.at
