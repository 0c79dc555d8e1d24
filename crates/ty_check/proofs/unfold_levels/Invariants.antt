-- `ty_check::unfold_levels` meets its contract.
use Rattle.ty_check.proofs.CountLaws.{Unfolding}
use Rattle.ty_check.proofs.unfold_levels.Given as goal

abbrev pub invariant-loop-k : goal.invariant-loop-k
invariant-loop-k l = Unfolding l.table.types.now l.table.fields.now l.counts l.other l.sums l._k
