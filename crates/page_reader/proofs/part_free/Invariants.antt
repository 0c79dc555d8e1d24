use Rattle.page_reader.proofs.Parting.{Parting}
use Rattle.page_reader.proofs.part_free.Given as goal

abbrev pub invariant-loop-i : goal.invariant-loop-i
invariant-loop-i l = Parting l.s l.at l.count l.initial.narrow l.narrow l.counts.free l.counts.retired l.k l.i
