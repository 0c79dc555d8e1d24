-- `liveness::fixpoint::solve` meets its contract.
use Prim.Native.Nat.{◌-◌, ◌*◌}
use Rattle.liveness.specs.Inner.Scratch.{set_bits}
use Rattle.liveness.proofs.Passes.{Solving}
use Rattle.liveness.proofs.fixpoint.solve.Given as goal

abbrev pub invariant-loop-done : goal.invariant-loop-done
invariant-loop-done l = Solving l.flow.kinds.now l.flow.registers.ends.now l.flow.registers.refs.now l.flow.blocks.bounds.now l.initial.s l.s l.flow.blocks.count l.flow.words

abbrev pub decreases-loop-done : goal.decreases-loop-done
decreases-loop-done l = l.flow.blocks.count * (3 * l.flow.words) * 64 - set_bits (l.flow.blocks.count * (3 * l.flow.words)) l.s
