use Rattle.page_reader.proofs.Listing.{Listing}
use Rattle.page_reader.proofs.fill_values.Given as goal

abbrev pub invariant-loop-i : goal.invariant-loop-i
invariant-loop-i g l = Listing g.T.Listed.width l.s l.at l.count (g.T.Listed.numbers l.initial.list) (g.T.Listed.numbers l.list) l.k l.i
