-- `memory::copy` meets its contract: j elements are copied.
use Rattle.std.proofs.Common.{◌≡◌, length}
use Rattle.word.specs.Put.{put}
use Rattle.memory.proofs.copy.Given as goal

abbrev pub invariant-loop-j : goal.invariant-loop-j
invariant-loop-j g l = (l.dst ≡ put l.initial.dst l.at l.src l.j) × (length l.dst ≡ length l.initial.dst)
