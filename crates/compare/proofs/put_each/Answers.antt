use Rattle.compare.proofs.TurnsPut.{turning-first, turning-end, turning-slot, turning-next}
use Rattle.compare.proofs.put_each.Goals as goal

pub loop-i-init : goal.loop-i-init
loop-i-init c = search turning-first

pub bounds-work-o : goal.bounds-work-o
bounds-work-o c = search turning-slot

pub bounds-work-o-in-loop-i : goal.bounds-work-o-in-loop-i
bounds-work-o-in-loop-i c = search turning-slot

pub loop-i-preserved : goal.loop-i-preserved
loop-i-preserved c = search turning-next

pub returns : goal.returns
returns c = search turning-end
