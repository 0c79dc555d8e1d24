use Rattle.liveness.proofs.Scratch.{joins-none, joins-on, joins-frame, joins-cells}
use Rattle.liveness.proofs.fixpoint.join.Goals as goal

pub loop-w-init : goal.loop-w-init
loop-w-init c = joins-none _ _ _ _

pub loop-w-preserved : goal.loop-w-preserved
loop-w-preserved c = joins-on c.loop-w.invariant c.loop-w-test.true c.requires.0 c.requires.1

pub shape_of-s : goal.shape_of-s
shape_of-s c = c.loop-w.invariant.kept

pub returns : goal.returns
returns c = (joins-frame c.loop-w.invariant c.loop-w-test.false, joins-cells c.loop-w.invariant c.loop-w-test.false)
