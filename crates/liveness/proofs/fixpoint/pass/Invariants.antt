-- `liveness::fixpoint::pass` meets its contract.
use Rattle.liveness.proofs.Passes.{Passing}
use Rattle.liveness.proofs.fixpoint.pass.Given as goal

abbrev pub invariant-loop-i : goal.invariant-loop-i
invariant-loop-i l = Passing l.flow.kinds.now l.flow.registers.ends.now l.flow.registers.refs.now l.flow.blocks.bounds.now l.initial.s l.s l.flow.blocks.count l.flow.words l.rising l.i l.changed
