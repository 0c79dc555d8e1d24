-- `heap::sizes_fit` meets its contract. Each test refuses what one size asks.
use Rattle.std.proofs.Common.{arith}
use Rattle.heap.proofs.Sizes.{sizes-no, sizes-yes}
use Rattle.heap.proofs.sizes_fit.Goals as goal

pub returns-then-all-lt1 : goal.returns-then-all-lt1
returns-then-all-lt1 c = sizes-no _ _ _ (λ z. omega (arith, z))

pub returns-then-all-gt16777216 : goal.returns-then-all-gt16777216
returns-then-all-gt16777216 c = sizes-no _ _ _ (λ z. omega (arith, z))

pub returns-then-pool-gt1073741824 : goal.returns-then-pool-gt1073741824
returns-then-pool-gt1073741824 c = sizes-no _ _ _ (λ z. omega (arith, z))

pub returns-then-narrow-all : goal.returns-then-narrow-all
returns-then-narrow-all c = sizes-no _ _ _ (λ z. omega (arith, z))

pub returns-then-wide-all : goal.returns-then-wide-all
returns-then-wide-all c = sizes-no _ _ _ (λ z. omega (arith, z))

pub returns : goal.returns
returns c = sizes-yes _ _ _ c.if-all-lt1.false c.if-all-gt16777216.false c.if-pool-gt1073741824.false c.if-narrow-all.false c.if-wide-all.false
