-- `run_door::admit` meets its contract.
use Rattle.heap.specs.Lent.{lent}
use Rattle.run_door.proofs.Admitting.{no_room, no-marks, no_words, bad-line, by-heap}
use Rattle.run_door.proofs.admit.Goals as goal

pub returns-then-room-pool : goal.returns-then-room-pool
returns-then-room-pool c = no_room _ _ _ ((lent c.args.heap c.args.narrow.now c.args.wide.now c.args.pool.now)) _ c.if-room-pool.true

pub returns-then-marks-slots : goal.returns-then-marks-slots
returns-then-marks-slots c = no-marks _ _ _ ((lent c.args.heap c.args.narrow.now c.args.wide.now c.args.pool.now)) _ c.if-marks-slots.true

pub returns-then-work-slots : goal.returns-then-work-slots
returns-then-work-slots c = no_words _ _ _ ((lent c.args.heap c.args.narrow.now c.args.wide.now c.args.pool.now)) _ c.if-marks-slots.false c.if-work-slots.true

pub returns-then-begins_call : goal.returns-then-begins_call
returns-then-begins_call c = by-heap _ _ _ ((lent c.args.heap c.args.narrow.now c.args.wide.now c.args.pool.now)) _ c.if-room-pool.false c.if-marks-slots.false c.if-work-slots.false (c.fill.ensures.after (λ y e. e)) c.begins_call.ensures c.if-begins_call.true c.enter.ensures

pub returns : goal.returns
returns c = bad-line _ _ _ ((lent c.args.heap c.args.narrow.now c.args.wide.now c.args.pool.now)) _ c.if-room-pool.false c.if-marks-slots.false c.if-work-slots.false (c.fill.ensures.after (λ y e. e)) c.begins_call.ensures c.if-begins_call.false (c.fill-2.ensures.after (λ y e. e)) (c.fill-3.ensures.after (λ y e. e))
