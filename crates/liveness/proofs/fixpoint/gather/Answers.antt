-- `liveness::fixpoint::gather` meets its contract.
use native.Mathlib.Omega.{arith}
use Rattle.code.specs.Inner.Columns.{seen}
use Rattle.liveness.proofs.Scratch.{outside_refl, outside_trans, gathered}
use Rattle.liveness.proofs.Passes.{linked-out}
use Rattle.liveness.proofs.fixpoint.gather.Goals as goal

pub returns-then-words-eq0 : goal.returns-then-words-eq0
returns-then-words-eq0 c = (outside_refl _ _ _, λ t cs q h. absurd (omega (arith, c.if-words-eq0.true)))

pub clear_row-requires : goal.clear_row-requires
clear_row-requires c = omega (arith, c.requires.nb_value.1)

pub leave-requires : goal.leave-requires
leave-requires c = record { nb_value = (c.requires.nb_value.0, omega (arith, c.requires.nb_value.1, c.clear_row.ensures.0.kept), linked-out (c.requires.nb_value.2 (omega (arith, c.if-words-eq0.false))) c.clear_row.ensures.0) }

pub returns : goal.returns
returns c = (
  outside_trans c.clear_row.ensures.0 c.leave.ensures.0,
  λ t cs q h. gathered c.leave.new.s c.args.flow.now.blocks.count c.args.flow.now.words (seen t c.args.flow.now.kinds.now c.args.flow.now.registers.ends.now c.args.flow.now.registers.refs.now c.args.flow.now.blocks.bounds.now cs) c.args.b c.clear_row.ensures.0 q h (c.clear_row.ensures.1 q h) (c.leave.ensures.1 t cs q h),
)
