use Rattle.heap.specs.Inner.Seen.{seen}
use Rattle.pages.proofs.Slots.{Summed}
use Rattle.pages.proofs.slots_len.Given as goal

abbrev pub invariant-loop-i : goal.invariant-loop-i
invariant-loop-i l = Summed (seen l.fn.view) l.n l.from l.i
