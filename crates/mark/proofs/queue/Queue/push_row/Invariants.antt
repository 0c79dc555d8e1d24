-- `mark::queue::Queue::push_row` meets its contract.
use Prim.Native.Nat.{◌+◌, ◌-◌}
use Rattle.mark.specs.Inner.Objects.{leads}
use Rattle.mark.specs.Inner.Safepoints.{live_values}
use Rattle.mark.specs.Inner.Queues.{state}
use Rattle.mark.specs.Inner.Joining.{taking}
use Rattle.mark.proofs.RowPushes.{RowPushes, words_of, bits_left}
use Rattle.mark.proofs.queue.Queue.push_row.Given as goal

abbrev pub invariant-loop-i : goal.invariant-loop-i
invariant-loop-i l = RowPushes l.here.tag l.here.slots l.here.s l.here.narrow.now l.pairs.list.now l.want l.registers.classes.now l.row l.registers.values.now l.fn.self (taking l.want (leads l.here) l.here.slots l.pairs.list.now (state l.fn.self) (live_values l.want l.registers)) l.self l.turns l.i l.rest

abbrev pub decreases-loop-i : goal.decreases-loop-i
decreases-loop-i l = (words_of l.registers.values.now - l.i) + bits_left l.row l.registers.values.now l.i l.rest
