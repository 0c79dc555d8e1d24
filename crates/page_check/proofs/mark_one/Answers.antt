use native.Mathlib.Omega.{arith}
use mathlib.Core.Path.{refl}
use Prim.Native.Nat.{◌-◌}
use Rattle.page_check.proofs.Marking.{mark-none, mark-twice, mark-first}
use Rattle.page_check.proofs.mark_one.Goals as goal

pub returns-then-v-base : goal.returns-then-v-base
returns-then-v-base c = mark-none c.args.row.now c.args.base c.args.m c.args.v (λ j l e. omega (arith, c.if-v-base.true))

pub returns-then-m-j : goal.returns-then-m-j
returns-then-m-j c = mark-none c.args.row.now c.args.base c.args.m c.args.v (λ j l e. omega (arith, c.if-m-j.true, c.if-v-base.false))

pub returns-then-test_bit : goal.returns-then-test_bit
returns-then-test_bit c = mark-twice c.args.row.now c.args.base c.args.m c.args.v (c.args.v - c.args.base) c.if-m-j.false refl c.if-v-base.false c.test_bit.ensures c.if-test_bit.true

pub set_bit-requires : goal.set_bit-requires
set_bit-requires c = omega (arith, c.if-m-j.false, c.requires)

pub returns : goal.returns
returns c = mark-first c.args.row.now c.args.base c.args.m c.args.v (c.args.v - c.args.base) c.if-m-j.false refl c.if-v-base.false c.test_bit.ensures _ c.if-test_bit.false c.set_bit.ensures
