use Rattle.text.proofs.Putting.{puts_none, hex-step, puts-all-hex, hex-room}
use Rattle.text.specs.Text.{hex}
use lib.ListN.{length-set}
use native.Mathlib.Omega.{arith}
use Rattle.text.proofs.put_hex.Goals as goal

pub loop-b-init : goal.loop-b-init
unfolding hex
loop-b-init c = puts_none c.args.out.now c.args.at (omega arith)

pub bounds-out-k : goal.bounds-out-k
bounds-out-k c = omega (arith, hex-room _ c.args.bytes.now c.loop-b-test.true c.requires c.loop-b.invariant)

pub overflow_add-out : goal.overflow_add-out
overflow_add-out c = omega (arith, hex-room _ c.args.bytes.now c.loop-b-test.true c.requires c.loop-b.invariant)

pub bounds-out-k-in-loop-b : goal.bounds-out-k-in-loop-b
bounds-out-k-in-loop-b c = simp length-set (omega (arith, hex-room _ c.args.bytes.now c.loop-b-test.true c.requires c.loop-b.invariant))

pub overflow_add-k : goal.overflow_add-k
overflow_add-k c = omega (arith, hex-room _ c.args.bytes.now c.loop-b-test.true c.requires c.loop-b.invariant)

pub loop-b-preserved : goal.loop-b-preserved
loop-b-preserved c = rw (c.hex_digit_of.ensures, c.hex_digit_of-in-loop-b.ensures) (hex-step c.args.out.now c.loop-b.out c.args.at c.loop-b.k c.loop-b.b-index c.args.bytes.now c.loop-b-test.true c.requires c.loop-b.auto.out c.loop-b.invariant)

pub returns : goal.returns
returns c = puts-all-hex c.loop-b.b-index c.args.bytes.now c.loop-b.invariant (omega arith)
