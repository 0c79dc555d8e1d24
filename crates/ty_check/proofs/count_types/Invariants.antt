-- `ty_check::count_types` meets its contract.
use Rattle.word.proofs.InPlace.{Mapped}
use Rattle.ty.specs.View.{types_of}
use Rattle.ty_check.specs.Inner.Counts.{next_count}
use Rattle.ty_check.proofs.count_types.Given as goal

abbrev pub invariant-loop-i : goal.invariant-loop-i
invariant-loop-i l = Mapped (next_count (types_of l.table.types.now l.table.fields.now) l.counts) l.initial.next l.next l.i
