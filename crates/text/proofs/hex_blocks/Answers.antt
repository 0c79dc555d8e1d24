use native.Mathlib.Omega.{arith}
use Rattle.text.proofs.Getting.{run_none, run_more}
use Rattle.text.proofs.hex_blocks.Goals as goal

pub loop-i-init : goal.loop-i-init
loop-i-init c = run_none _ _

pub overflow_add-i : goal.overflow_add-i
overflow_add-i c = omega (arith, (c.hex_block.ensures c.loop-i-test.true).within)

pub loop-i-smaller : goal.loop-i-smaller
loop-i-smaller c = omega (arith, (c.hex_block.ensures c.loop-i-test.true).within)

pub loop-i-preserved : goal.loop-i-preserved
loop-i-preserved c = run_more _ _ _ c.loop-i.invariant (c.hex_block.ensures c.loop-i-test.true)
