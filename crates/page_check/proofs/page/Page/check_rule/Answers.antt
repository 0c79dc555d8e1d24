use mathlib.Core.Path.{refl, ◌∙◌}
use native.Mathlib.Omega.{arith}
use Rattle.page_check.proofs.Rules.{left-whole, left-next, left-wrong, left-none, run-parsed}
use Rattle.page_check.proofs.page.Page.check_rule.Goals as goal

pub loop-base-init : goal.loop-base-init
loop-base-init c = (refl, left-whole c.args.self.text.now c.args.self.sections c.args.rule c.args.self.sectioned)

pub overflow_sub-slots : goal.overflow_sub-slots
overflow_sub-slots c = c.loop-base.invariant.1.below

pub check_run-requires : goal.check_run-requires
check_run-requires c = record { slots_parsed = run-parsed c.args.self.text.now c.args.self.sections c.args.rule c.loop-base.k c.run_of-m.result c.loop-base.base c.loop-base.invariant.1 (omega (arith, c.run_of-m.ensures.upper_bound.0, c.loop-base.invariant.1.below)); at_in_bounds = (c.loop-base.invariant.1.inside, c.run_of-m.ensures.upper_bound.1) }

pub shape_of-row-in_default : goal.shape_of-row-in_default
shape_of-row-in_default c = c.check_run.auto.row ∙ c.loop-base.invariant.0

pub returns-in_default : goal.returns-in_default
returns-in_default c = left-wrong c.args.self.text.now c.args.self.sections c.args.rule c.loop-base.k c.run_of-m.result c.loop-base.base c.loop-base.invariant.1 (omega (arith, c.run_of-m.ensures.upper_bound.0, c.loop-base.invariant.1.below)) c.in_default.ensures

pub overflow_add-base : goal.overflow_add-base
overflow_add-base c = omega (arith, c.run_of-m.ensures.upper_bound.0, c.loop-base.invariant.1.below)

pub loop-base-smaller : goal.loop-base-smaller
loop-base-smaller c = omega (arith, c.run_of-m.ensures.lower_bound (omega (arith, c.requires, c.loop-base.invariant.0)) (omega (arith, c.loop-base-test.true)), c.run_of-m.ensures.upper_bound.0, c.loop-base-test.true)

pub loop-base-preserved : goal.loop-base-preserved
loop-base-preserved c = (c.check_run.auto.row ∙ c.loop-base.invariant.0, left-next c.args.self.text.now c.args.self.sections c.args.rule c.loop-base.k c.run_of-m.result c.loop-base.base c.loop-base.invariant.1 (omega (arith, c.run_of-m.ensures.upper_bound.0, c.loop-base.invariant.1.below)) c.in-Some.ensures)

pub shape_of-row : goal.shape_of-row
shape_of-row c = c.loop-base.invariant.0

pub returns : goal.returns
returns c = left-none c.args.self.text.now c.args.self.sections c.args.rule c.loop-base.k c.loop-base.base c.args.self.sectioned c.loop-base.invariant.1 c.loop-base-test.false
