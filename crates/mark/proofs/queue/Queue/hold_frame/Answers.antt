use mathlib.Core.Path.{refl}
use Rattle.mark.proofs.States.{same-again}
use Rattle.mark.proofs.Holding.{frame-next, frame-end}
use Rattle.mark.proofs.queue.Queue.hold_frame.Goals as goal

pub loop-offset-init : goal.loop-offset-init
loop-offset-init c = record { loans = same-again c.args.self.now; scratch = c.requires; same = refl; noted = refl }

pub loop-offset-preserved : goal.loop-offset-preserved
loop-offset-preserved c = search frame-next

pub returns : goal.returns
returns c = search frame-end
