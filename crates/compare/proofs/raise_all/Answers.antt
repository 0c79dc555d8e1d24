use Rattle.compare.proofs.TurnsPut.{raising-first, raising-end, raising-next}
use Rattle.compare.proofs.raise_all.Goals as goal

pub loop-word-init : goal.loop-word-init
loop-word-init c = search raising-first

pub loop-word-preserved : goal.loop-word-preserved
loop-word-preserved c = search raising-next

pub returns : goal.returns
returns c = search raising-end
