use native.Mathlib.Omega.{arith}
use Rattle.liveness.proofs.Chaining.{chains-same}
use Rattle.liveness.proofs.chains.BlockChains.chain.Goals as goal

pub loop-b-init : goal.loop-b-init
loop-b-init c = (omega arith, c.requires.2)

pub hang-requires : goal.hang-requires
hang-requires c = (c.requires.0, c.requires.1, omega (arith, c.loop-b.invariant.0, c.loop-b-test.true), chains-same c.loop-b.invariant.1 (omega (arith, c.loop-b-test.true)))

pub loop-b-preserved : goal.loop-b-preserved
loop-b-preserved c = (omega (arith, c.loop-b.invariant.0), c.hang.ensures)

pub returns : goal.returns
returns c = chains-same c.loop-b.invariant.1 (omega (arith, c.loop-b-test.false))
