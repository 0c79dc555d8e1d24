use native.Mathlib.Omega.{arith}
use Rattle.text.proofs.Getting.{looking-on}
use Rattle.text.proofs.hex_block.Goals as goal

pub loop-b-preserved : goal.loop-b-preserved
loop-b-preserved c = looking-on _ c.loop-b.invariant (omega arith) c.loop-b-test.true c.is_hex_digit-all.ensures
