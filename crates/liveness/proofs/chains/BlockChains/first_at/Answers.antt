use native.Mathlib.Omega.{arith}
use mathlib.Core.Path.{refl}
use Rattle.liveness.proofs.Chaining.{chase-begin, chase-further, chase-on, chase-found, chase-end}
use Rattle.liveness.proofs.chains.BlockChains.first_at.Goals as goal

pub loop-c-init : goal.loop-c-init
loop-c-init c = chase-begin c.requires.1 _ _ refl

pub returns-then-blocks-c : goal.returns-then-blocks-c
returns-then-blocks-c c = chase-found c.loop-c.invariant c.loop-c-test.true _ refl c.if-blocks-c.true

pub loop-c-smaller : goal.loop-c-smaller
loop-c-smaller c = omega (arith, chase-further c.loop-c.invariant c.requires.1 c.loop-c-test.true _ refl, c.loop-c-test.true)

pub loop-c-preserved : goal.loop-c-preserved
loop-c-preserved c = chase-on c.loop-c.invariant c.requires.1 c.loop-c-test.true _ _ refl c.if-blocks-c.false refl

pub returns : goal.returns
returns c = chase-end c.loop-c.invariant c.loop-c-test.false
