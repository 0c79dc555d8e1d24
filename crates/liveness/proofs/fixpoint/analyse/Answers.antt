-- `liveness::fixpoint::analyse` meets its contract.
use native.Mathlib.Omega.{arith}
use mathlib.Core.Path.{sym, ◌∙◌}
use Rattle.code.specs.Inner.Columns.{wanted}
use Rattle.code.proofs.Marks.{zeros-at}
use Rattle.liveness.proofs.Passes.{solved-fixed}
use Rattle.code.proofs.Forms.{seen-disjoint, seen-count}
use Rattle.liveness.proofs.fixpoint.analyse.Goals as goal

pub returns-then-plan-eq0 : goal.returns-then-plan-eq0
returns-then-plan-eq0 c = (c.fill.auto.self, record { linked = λ h. absurd (omega (arith, c.if-plan-eq0.true)); lives = λ b q h. absurd (omega (arith, c.if-plan-eq0.true)) })

pub build-requires : goal.build-requires
build-requires c = record { nb_value = (omega (arith, c.requires.nb_value, c.fill.auto.self), omega (arith, c.if-plan-eq0.false)); by_index_2 = zeros-at c.fill.new.self _ (c.fill.ensures.after (λ y e. e)) }

pub solve-requires : goal.solve-requires
solve-requires c = record { nb_value = (omega (arith, c.requires.nb_value, c.build.ensures.kept, c.fill.auto.self), c.build.ensures.linked) }

pub returns : goal.returns
returns c = (c.solve.ensures.kept ∙ c.build.ensures.kept ∙ c.fill.auto.self, solved-fixed (wanted c.args.plan.now.flow.registers.which) c.args.plan.now.flow.registers.classes.now c.solve.ensures (c.build.ensures.rows c.args.plan.now.flow.kinds.now) (seen-disjoint c.args.plan.now.flow.kinds.now c.args.plan.now.flow.registers.ends.now c.args.plan.now.flow.registers.refs.now c.args.plan.now.flow.blocks.bounds.now c.args.plan.now.flow.registers.classes.now (wanted c.args.plan.now.flow.registers.which) c.args.plan.now.passed) (seen-count c.args.plan.now.flow.kinds.now c.args.plan.now.flow.registers.ends.now c.args.plan.now.flow.registers.refs.now c.args.plan.now.flow.blocks.bounds.now c.args.plan.now.flow.registers.classes.now (wanted c.args.plan.now.flow.registers.which) ∙ sym c.args.plan.now.flow.counted))
