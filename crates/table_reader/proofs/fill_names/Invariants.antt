use Rattle.table_reader.proofs.Naming.{Naming}
use Rattle.table_reader.proofs.fill_names.Given as goal

abbrev pub invariant-loop-i : goal.invariant-loop-i
invariant-loop-i l = Naming l.k l.most l.s l.at l.count l.initial.names l.to l.names l.p l.o l.i
