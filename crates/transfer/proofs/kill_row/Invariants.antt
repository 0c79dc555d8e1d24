-- `transfer::kill_row` meets its contract.
use Rattle.code.specs.Inner.Columns.{wanted}
use Rattle.transfer.proofs.Turns.{Kills}
use Rattle.transfer.proofs.kill_row.Given as goal

abbrev pub invariant-loop-p : goal.invariant-loop-p
invariant-loop-p l = Kills (wanted l.registers.which) l.registers.ends.now l.registers.refs.now l.registers.classes.now l.from l.to l.initial.row l.row l.p
