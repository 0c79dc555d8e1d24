use Prim.Native.Nat.{◌/◌, ◌^◌}
use native.Mathlib.Omega.{arith}
use lib.Bits.{and_mask}
use Rattle.handle.specs.Handle.{index_of}
use Rattle.handle.proofs.index_of.Goals as goal

pub overflow_cast-result : goal.overflow_cast-result
overflow_cast-result c = omega (arith, and_mask (c.args.h / 2 ^ 32) 24)

pub returns : goal.returns
unfolding index_of
returns c = and_mask (c.args.h / 2 ^ 32) 24
