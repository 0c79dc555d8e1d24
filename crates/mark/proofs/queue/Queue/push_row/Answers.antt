use native.Mathlib.Omega.{arith}
use Rattle.word.proofs.OnesLaws.{trailing_lt}
use Rattle.word.proofs.Bools.{positive}
use Rattle.mark.proofs.RowPushes.{row_first, few_turns, pass-left, row-pass, take_left, row-take, row-end, row-turns}
use Rattle.mark.proofs.queue.Queue.push_row.Goals as goal

pub loop-i-init : goal.loop-i-init
loop-i-init c = search row_first

pub overflow_add-turns : goal.overflow_add-turns
overflow_add-turns c = omega (arith, few_turns _ _ _ _ _ _ _ _ _ _ _ _ _ _ _ c.loop-i.invariant)

pub loop-i-smaller-then-rest-eq0 : goal.loop-i-smaller-then-rest-eq0
loop-i-smaller-then-rest-eq0 c = omega (arith, pass-left _ _ _ _ _ _ _ _ _ _ _ _ _ _ _ c.loop-i.invariant _ c.if-rest-eq0.true c.word_at-rest-then-rest-eq0.ensures, c.loop-i-test.true)

pub loop-i-preserved-then-rest-eq0 : goal.loop-i-preserved-then-rest-eq0
loop-i-preserved-then-rest-eq0 c = search row-pass

pub overflow_cast-q : goal.overflow_cast-q
overflow_cast-q c = omega (arith, trailing_lt 64 c.loop-i.rest (positive c.loop-i.rest c.if-rest-eq0.false) c.loop-i.invariant.word)

pub overflow_add-q : goal.overflow_add-q
overflow_add-q c = omega (arith, trailing_lt 64 c.loop-i.rest (positive c.loop-i.rest c.if-rest-eq0.false) c.loop-i.invariant.word, c.loop-i-test.true)

pub loop-i-smaller : goal.loop-i-smaller
loop-i-smaller c = omega (arith, take_left _ _ _ _ _ _ _ _ _ _ _ _ _ _ _ c.loop-i.invariant c.loop-i-test.true c.if-rest-eq0.false)

pub loop-i-preserved : goal.loop-i-preserved
loop-i-preserved c = search row-take

pub returns : goal.returns
returns c = record { followed = search row-end; turns = search row-turns }
