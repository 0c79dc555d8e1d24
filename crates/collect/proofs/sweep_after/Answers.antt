-- `collect::sweep_after` meets its contract.
use mathlib.Core.Path.{refl}
use Rattle.heap.specs.Inner.Loans.{lies}
use Rattle.collect.proofs.Collecting.{finish-stuck, finish-done}
use Rattle.collect.proofs.sweep_after.Goals as goal

pub returns-in_err-marked : goal.returns-in_err-marked
returns-in_err-marked g c = record { loans = record { narrow = refl; wide = refl; pool = refl }; tells = finish-stuck (lies c.args.lent.now) c.args.marks.now (g.P.Pinned.slots c.args.pins) c.args.marked c.args.lent.now.formed _ c.in_err-marked.was _ c.from_residual.ensures.1 }

pub returns : goal.returns
returns g c = record { loans = c.sweep.ensures.loans; tells = finish-done (lies c.args.lent.now) c.args.marks.now (g.P.Pinned.slots c.args.pins) c.args.marked _ c.in_ok-marked.was _ c.sweep.ensures.leaves }
