-- `run_door::recycle` meets its contract.
use Rattle.run_door.proofs.Moving.{no_pins}
use Rattle.run_door.proofs.recycle.Goals as goal

pub invariant_of-none : goal.invariant_of-none
invariant_of-none c = record { rises = no_pins }
