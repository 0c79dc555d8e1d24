-- `Queue::seed` meets its contract.
use Rattle.mark.proofs.TracedIntoQueue.{seed-done}
use Rattle.mark.proofs.queue.Queue.seed.Goals as goal

pub returns : goal.returns
returns c = seed-done _ _ _ _ _ _ _ c.args.roots.now c.args.sealed.now c.args.pins.now c.push_all.ensures c.push_all-2.ensures c.pin_all.ensures
