-- `memory::move_up` meets its contract: the elements from j on are moved.
use Rattle.std.proofs.Common.{◌≡◌, ◌+◌, ◌-◌, ◌≤◌, length, drop}
use Rattle.word.specs.Put.{put}
use Rattle.memory.proofs.move_up.Given as goal

abbrev pub invariant-loop-j : goal.invariant-loop-j
invariant-loop-j g l = (l.j ≤ l.n) × (l.p ≡ put l.initial.p (l.to + l.j) (drop (l.from + l.j) l.initial.p) (l.n - l.j)) × (length l.p ≡ length l.initial.p)
