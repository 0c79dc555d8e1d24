use native.Mathlib.Omega.{arith}
use Rattle.text.specs.Text.{ascii}
use Rattle.shelves.specs.Shelf.{names_line}
use Rattle.shelves.proofs.Telling.{begun-is}
use Rattle.shelves.proofs.reading.Reading.begin.Goals as goal

pub invariant_of-reading : goal.invariant_of-reading
unfolding names_line ascii
invariant_of-reading c = record { good = (begun-is _ _ c.args.out.now _ _ c.none.ensures c.due.ensures (omega (arith, c.put_literal-to.ensures.next)) c.put_literal-to.ensures).good }

pub returns : goal.returns
unfolding names_line ascii
returns c = begun-is _ _ c.args.out.now _ _ c.none.ensures c.due.ensures (omega (arith, c.put_literal-to.ensures.next)) c.put_literal-to.ensures
