-- `liveness::fixpoint::start_block` meets its contract.
use native.Mathlib.Omega.{arith}
use mathlib.Core.Path.{refl, ◌∙◌, subst}
use Prim.Native.Nat.{ℕ, ◌*◌, ◌≤◌}
use lib.ListN.{length, length-set}
use Rattle.code.specs.Inner.Columns.{wanted}
use Rattle.liveness.proofs.Scratch.{block-fits}
use Rattle.code.proofs.Plans.{block-inside}
use Rattle.liveness.proofs.Chaining.{first-start}
use Rattle.liveness.proofs.Builds.{begun-none, begun-rows}
use Rattle.liveness.proofs.fixpoint.start_block.Goals as goal

pub returns-then-e-st : goal.returns-then-e-st
returns-then-e-st c = begun-none (wanted c.args.plan.now.flow.registers.which) c.args.plan.now.flow.registers.ends.now c.args.plan.now.flow.registers.refs.now c.args.plan.now.flow.blocks.bounds.now c.args.plan.now.flow.registers.classes.now c.args.plan.now.flow.blocks.count c.args.plan.now.flow.words c.args.b c.requires.nb_value.0 c.args.plan.now.flow.counted _ _ refl refl c.args.s.now c.requires.by_index c.if-e-st.true

pub overflow_mul-at-2 : goal.overflow_mul-at-2
overflow_mul-at-2 c = omega (arith, block-fits c.args.b c.args.plan.now.flow.blocks.count (3 * c.args.plan.now.flow.words) c.requires.nb_value.0)

pub back_at-requires : goal.back_at-requires
back_at-requires c = record { words_in_bounds = omega (arith, block-fits c.args.b c.args.plan.now.flow.blocks.count (3 * c.args.plan.now.flow.words) c.requires.nb_value.0, c.requires.nb_value.1); from_le_to = (omega (arith, c.if-e-st.false), subst (λ (u : ℕ). 3 * u ≤ length c.args.plan.now.flow.registers.ends.now) refl (block-inside c.args.plan.now c.args.b c.requires.nb_value.0 (omega (arith, c.if-e-st.false))), c.args.plan.now.covered) }

pub overflow_add-at : goal.overflow_add-at
overflow_add-at c = omega (arith, block-fits c.args.b c.args.plan.now.flow.blocks.count (3 * c.args.plan.now.flow.words) c.requires.nb_value.0, c.requires.nb_value.1)

pub kill_at-requires : goal.kill_at-requires
kill_at-requires c = record { words_in_bounds = omega (arith, block-fits c.args.b c.args.plan.now.flow.blocks.count (3 * c.args.plan.now.flow.words) c.requires.nb_value.0, c.requires.nb_value.1, c.back_at.ensures.0.kept); from_le_to = (omega (arith, c.if-e-st.false), subst (λ (u : ℕ). 3 * u ≤ length c.args.plan.now.flow.registers.ends.now) refl (block-inside c.args.plan.now c.args.b c.requires.nb_value.0 (omega (arith, c.if-e-st.false))), c.args.plan.now.covered) }

pub first_at-t-requires : goal.first_at-t-requires
first_at-t-requires c = (omega arith, c.requires.nb_value.3)

pub overflow_mul-s : goal.overflow_mul-s
overflow_mul-s c = omega (arith, block-fits c.args.b c.args.plan.now.flow.blocks.count (3 * c.args.plan.now.flow.words) c.requires.nb_value.0, c.requires.nb_value.1, c.back_at.ensures.0.kept, c.kill_at.ensures.0.kept)

pub overflow_add-s : goal.overflow_add-s
overflow_add-s c = omega (arith, block-fits c.args.b c.args.plan.now.flow.blocks.count (3 * c.args.plan.now.flow.words) c.requires.nb_value.0, c.requires.nb_value.1, c.back_at.ensures.0.kept, c.kill_at.ensures.0.kept)

pub offset_bounds-s-at : goal.offset_bounds-s-at
offset_bounds-s-at c = omega (arith, block-fits c.args.b c.args.plan.now.flow.blocks.count (3 * c.args.plan.now.flow.words) c.requires.nb_value.0, c.requires.nb_value.1, c.back_at.ensures.0.kept, c.kill_at.ensures.0.kept)

pub bounds-s-at : goal.bounds-s-at
bounds-s-at c = omega (arith, block-fits c.args.b c.args.plan.now.flow.blocks.count (3 * c.args.plan.now.flow.words) c.requires.nb_value.0, c.requires.nb_value.1, c.back_at.ensures.0.kept, c.kill_at.ensures.0.kept, c.requires.nb_value.2)

pub shape_of-s : goal.shape_of-s
shape_of-s c = length-set c.kill_at.new.s _ _ ∙ c.kill_at.ensures.0.kept ∙ c.back_at.ensures.0.kept

pub returns : goal.returns
returns c = begun-rows (wanted c.args.plan.now.flow.registers.which) c.args.plan.now.flow.registers.ends.now c.args.plan.now.flow.registers.refs.now c.args.plan.now.flow.blocks.bounds.now c.args.plan.now.flow.registers.classes.now c.args.plan.now.flow.blocks.count c.args.plan.now.flow.words c.args.b c.requires.nb_value.0 c.args.plan.now.flow.counted _ _ refl refl c.args.s.now c.requires.by_index c.back_at.new.s c.kill_at.new.s _ c.requires.nb_value.2 (omega (arith, c.requires.nb_value.1)) c.back_at.ensures.0 c.back_at.ensures.1 c.kill_at.ensures.0 c.kill_at.ensures.1 (first-start c.args.plan.now.flow.blocks.bounds.now _ _ _ c.first_at-t.ensures)
