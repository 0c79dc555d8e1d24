-- `text::put_literal` meets its contract.
use lib.ListN.{length-set}
use native.Mathlib.Omega.{arith}
use mathlib.Core.Path.{refl}
use Rattle.text.proofs.Putting.{puts_none, puts-at, literal-step, puts-all}
use Rattle.text.proofs.put_literal.Goals as goal

pub loop-i-init : goal.loop-i-init
loop-i-init c = (refl, puts-at (puts_none c.args.out.now c.args.at (omega arith)) (omega arith) refl)

pub loop-i-preserved : goal.loop-i-preserved
loop-i-preserved c = (simp length-set c.loop-i.invariant.0, literal-step c.args.out.now c.loop-i.out c.args.at c.loop-i.i c.args.literal.now c.loop-i-test.true c.requires c.loop-i.invariant.0 c.loop-i.invariant.1)

pub returns : goal.returns
returns c = puts-at (puts-all c.loop-i.i c.args.literal.now c.loop-i.invariant.1 (omega arith)) (omega arith) refl
