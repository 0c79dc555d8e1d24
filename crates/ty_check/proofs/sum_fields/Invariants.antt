-- `ty_check::sum_fields` meets its contract.
use Rattle.ty_check.proofs.CountLaws.{Summing}
use Rattle.ty_check.proofs.sum_fields.Given as goal

abbrev pub invariant-loop-i : goal.invariant-loop-i
invariant-loop-i l = Summing l.fields l.counts l.initial.sums l.sums l.s l.i
