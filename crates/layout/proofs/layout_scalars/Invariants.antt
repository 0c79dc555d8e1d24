-- `layout::layout_scalars` meets its contract.
use Rattle.layout.proofs.ScalarLaws.{Placing}
use Rattle.layout.proofs.layout_scalars.Given as goal

abbrev pub invariant-loop-i : goal.invariant-loop-i
invariant-loop-i l = Placing l.table l.first l.count l.initial.out l.out l.off l.align l.i
