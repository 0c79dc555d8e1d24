use native.Mathlib.Omega.{arith}
use mathlib.Core.Logic.{inl, inr}
use Prim.Native.Nat.{◌+◌, ◌*◌}
use Rattle.liveness.proofs.Scratch.{block-fits}
use Rattle.liveness.proofs.Steps.{met_of}
use Rattle.liveness.proofs.Passes.{turn-below, linked-out, passes_none, passes-end, pass-on}
use Rattle.liveness.proofs.fixpoint.pass.Goals as goal
use Rattle.liveness.proofs.fixpoint.pass.Goals.{then-grown, else-grown}

pub loop-i-init : goal.loop-i-init
loop-i-init c = passes_none _ _ _ _ _ _ _ _ c.requires.nb_value.1

pub gather-requires : goal.gather-requires
gather-requires c = record { nb_value = (turn-below c.args.rising c.args.flow.now.blocks.count c.loop-i.i _ c.block_of_turn-b.ensures c.loop-i-test.true, omega (arith, c.loop-i.invariant.kept, c.requires.nb_value.0), λ h. c.loop-i.invariant.linked) }

pub overflow_mul-live : goal.overflow_mul-live
overflow_mul-live c = omega (arith, block-fits c.block_of_turn-b.result c.args.flow.now.blocks.count (3 * c.args.flow.now.words) (turn-below c.args.rising c.args.flow.now.blocks.count c.loop-i.i _ c.block_of_turn-b.ensures c.loop-i-test.true))

pub overflow_add-at : goal.overflow_add-at
overflow_add-at c = omega (arith, c.requires.nb_value.0)

pub overflow_mul-words : goal.overflow_mul-words
overflow_mul-words c = omega (arith, c.requires.nb_value.0)

pub run_before-grown-requires : goal.run_before-grown-requires
run_before-grown-requires c = let fits = block-fits c.block_of_turn-b.result c.args.flow.now.blocks.count (3 * c.args.flow.now.words) (turn-below c.args.rising c.args.flow.now.blocks.count c.loop-i.i _ c.block_of_turn-b.ensures c.loop-i-test.true) in (
  record { live_in = omega (arith, fits); made_in = omega arith; out_in = omega arith; kill_in = omega (arith, fits); made_apart = inl (omega (arith, fits)); out_apart = inl (omega (arith, fits)); kill_apart = inl (omega arith) },
  omega (arith, c.requires.nb_value.0, c.loop-i.invariant.kept, c.gather.ensures.0.kept),
  omega (arith, fits),
  omega (arith, fits),
  omega arith,
)

pub loop-i-preserved : goal.loop-i-preserved
loop-i-preserved c = pass-on c.loop-i.invariant c.loop-i-test.true c.block_of_turn-b.ensures c.gather.new.s c.run_before-grown.new.scratch c.gather.ensures.0 c.gather.ensures.1 (met_of (c.args.flow.now.blocks.count * (3 * c.args.flow.now.words)) c.args.flow.now.words (c.block_of_turn-b.result * (3 * c.args.flow.now.words)) (c.args.flow.now.blocks.count * (3 * c.args.flow.now.words) + c.args.flow.now.words) (c.args.flow.now.blocks.count * (3 * c.args.flow.now.words)) (c.block_of_turn-b.result * (3 * c.args.flow.now.words) + c.args.flow.now.words) c.run_before-grown.ensures (omega (arith, block-fits c.block_of_turn-b.result c.args.flow.now.blocks.count (3 * c.args.flow.now.words) (turn-below c.args.rising c.args.flow.now.blocks.count c.loop-i.i _ c.block_of_turn-b.ensures c.loop-i-test.true))) (omega (arith, c.requires.nb_value.0, c.loop-i.invariant.kept, c.gather.ensures.0.kept)) (linked-out c.loop-i.invariant.linked c.gather.ensures.0).blank) (elim c.if-grown.branch [
  | then-grown w ↦ inl (w.if-grown.true, w.changed-is)
  | else-grown w ↦ inr (w.if-grown.false, w.changed-is)
])

pub shape_of-s : goal.shape_of-s
shape_of-s c = c.loop-i.invariant.kept

pub returns : goal.returns
returns c = passes-end c.args.rising c.loop-i.invariant c.loop-i-test.false
