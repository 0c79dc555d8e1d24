-- `memory::move_down` meets its contract: j elements are moved.
use Rattle.std.proofs.Common.{◌≡◌, length, drop}
use Rattle.word.specs.Put.{put}
use Rattle.memory.proofs.move_down.Given as goal

abbrev pub invariant-loop-j : goal.invariant-loop-j
invariant-loop-j g l = (l.p ≡ put l.initial.p l.to (drop l.from l.initial.p) l.j) × (length l.p ≡ length l.initial.p)
