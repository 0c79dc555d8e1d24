use native.Mathlib.Omega.{arith}
use mathlib.Core.Path.{refl, ◌∙◌}
use Rattle.shelves.proofs.Going.{gone-none, gone-more, more-used, gone-all, gone-full}
use Rattle.word.proofs.ListLaws.{rest}
use Rattle.shelves.proofs.reading.Reading.go_on.Goals as goal

pub loop-used-init : goal.loop-used-init
loop-used-init c = (gone-none _ _ _ _ c.args.self.now.good, refl, omega arith)

pub returns-then-page-gt65376 : goal.returns-then-page-gt65376
returns-then-page-gt65376 c = gone-full c.loop-used.invariant.0 c.if-page-gt65376.true

pub step-taken-requires : goal.step-taken-requires
step-taken-requires c = (c.loop-used.invariant.0.good, omega (arith, c.if-page-gt65376.false), c.loop-used.invariant.2)

pub overflow_add-used : goal.overflow_add-used
overflow_add-used c = omega (arith, (more-used c.loop-used.invariant.0 c.loop-used-test.true (rest c.loop-used.used c.args.input.now) c.step-taken.ensures.goes).1)

pub loop-used-smaller : goal.loop-used-smaller
loop-used-smaller c = let w = more-used c.loop-used.invariant.0 c.loop-used-test.true (rest c.loop-used.used c.args.input.now) c.step-taken.ensures.goes in omega (arith, w.0, w.1)

pub loop-used-preserved : goal.loop-used-preserved
loop-used-preserved c = (
  gone-more c.loop-used.invariant.0 c.loop-used-test.true (rest c.loop-used.used c.args.input.now) c.step-taken.ensures.goes,
  c.step-taken.ensures.same_page.loan ∙ c.loop-used.invariant.1,
  c.step-taken.ensures.same_page.size ∙ c.loop-used.invariant.2,
)

pub returns : goal.returns
returns c = gone-all c.loop-used.invariant.0 c.loop-used-test.false
