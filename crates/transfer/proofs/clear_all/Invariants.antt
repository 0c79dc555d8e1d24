use lib.ListN.{length}
use Rattle.flow.specs.Dataflow.{asked}
use Rattle.code.specs.Inner.Columns.{wanted}
use Rattle.transfer.proofs.Turns.{Clears}
use Rattle.transfer.proofs.clear_all.Given as goal

abbrev pub invariant-loop-register : goal.invariant-loop-register
invariant-loop-register l = Clears (asked (wanted l.registers.which) l.registers.classes.now) l.list (length l.list) l.initial.row l.row 0 l.register-index
