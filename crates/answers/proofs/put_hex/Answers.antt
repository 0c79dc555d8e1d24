-- `answers::put_hex` meets its contract: a part of 4,096 bytes has 8,192 digits.
use native.Mathlib.Omega.{arith}
use Rattle.text.proofs.Laws.{hex-length}
use Rattle.answers.proofs.put_hex.Goals as goal

pub put_hex-n-requires : goal.put_hex-n-requires
put_hex-n-requires g c = omega (arith, hex-length c.in-Some.part.now, c.in-Some.ensures.steps.1.1, c.loop-part.invariant.2)
