-- `layout::scalar_fields` meets its contract. The loop's invariant: the fields passed are scalars.
use Rattle.layout.specs.Inner.Lent.{ScalarFields}
use Rattle.layout.proofs.scalar_fields.Given as goal

abbrev pub invariant-loop-i : goal.invariant-loop-i
invariant-loop-i l = ScalarFields l.table l.first l.i
