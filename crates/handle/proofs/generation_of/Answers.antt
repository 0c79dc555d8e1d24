use native.Mathlib.Omega.{arith}
use lib.Bits.{and_mask}
use Rattle.handle.specs.Handle.{generation_of}
use Rattle.handle.proofs.generation_of.Goals as goal

pub overflow_cast-result : goal.overflow_cast-result
overflow_cast-result c = omega (arith, and_mask c.args.h 32)

pub returns : goal.returns
unfolding generation_of
returns c = and_mask c.args.h 32
