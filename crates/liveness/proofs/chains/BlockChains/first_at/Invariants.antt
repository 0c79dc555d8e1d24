-- `liveness::chains::first_at` meets its contract.
use Prim.Native.Nat.{◌-◌}
use Rattle.liveness.proofs.Chaining.{Chase}
use Rattle.liveness.proofs.chains.BlockChains.first_at.Given as goal

abbrev pub invariant-loop-c : goal.invariant-loop-c
invariant-loop-c l = Chase l.blocks.bounds.now l.word l.blocks.count l.pc l.c

abbrev pub decreases-loop-c : goal.decreases-loop-c
decreases-loop-c l = l.blocks.count - l.c
