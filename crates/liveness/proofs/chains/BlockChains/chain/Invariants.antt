-- `liveness::chains::chain` meets its contract.
use Prim.Native.Nat.{◌≤◌}
use Rattle.liveness.specs.Inner.Chains.{Chains}
use Rattle.liveness.proofs.chains.BlockChains.chain.Given as goal

abbrev pub invariant-loop-b : goal.invariant-loop-b
invariant-loop-b l = (l.b ≤ l.blocks.count) × Chains l.blocks.bounds.now l.word l.blocks.count l.b l.self.heads l.self.links
