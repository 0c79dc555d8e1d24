-- `heap_check::runs_ok` meets its contract: each part that fails is a field that does not hold.
use mathlib.Core.Path.{sym, ◌∙◌}
use native.Mathlib.Omega.{arith}
use lib.Seq.{length-take-le}
use Rattle.heap_check.proofs.CheckLoops.{says-no, says-last, false-true, no_more, no-more-zeros, holds, holds-zeros}
use Rattle.heap_check.proofs.runs_ok.Goals as goal

pub returns-then-not-unused_ok : goal.returns-then-not-unused_ok
returns-then-not-unused_ok c = no_more c.unused_ok.ensures c.if-not-unused_ok.true (λ y. y.unused)

pub returns-then-not-slots_ok : goal.returns-then-not-slots_ok
returns-then-not-slots_ok c = no_more c.slots_ok.ensures c.if-not-slots_ok.true (λ y. y.slots)

pub begins-requires : goal.begins-requires
begins-requires c = omega (arith, c.requires.header_ok, c.args.of.sizes)

pub returns-then-not-all_zero : goal.returns-then-not-all_zero
returns-then-not-all_zero c = no-more-zeros c.begins.result c.args.of.pool.now c.all_zero.ensures c.if-not-all_zero.true (λ y. rw c.begins.ensures y.pool)

pub slice_bounds-seals_ok-end : goal.slice_bounds-seals_ok-end
slice_bounds-seals_ok-end c = sym (length-take-le _ _ (omega (arith, c.requires.header_ok, c.args.of.sizes)))

pub returns-then-not-seals_ok : goal.returns-then-not-seals_ok
returns-then-not-seals_ok c = says-no (λ y. false-true _ c.if-not-seals_ok.true (c.seals_ok.ensures ∙ y.seals))

pub slice_bounds-lists_ok-end : goal.slice_bounds-lists_ok-end
slice_bounds-lists_ok-end c = sym (length-take-le _ _ (omega (arith, c.requires.header_ok, c.args.of.sizes)))

pub slice_bounds-lists_ok-end-2 : goal.slice_bounds-lists_ok-end-2
slice_bounds-lists_ok-end-2 c = sym (length-take-le _ _ (omega (arith, c.requires.header_ok, c.args.of.sizes)))

pub slice_bounds-lists_ok-end-3 : goal.slice_bounds-lists_ok-end-3
slice_bounds-lists_ok-end-3 c = sym (length-take-le _ _ (omega (arith, c.requires.header_ok, c.args.of.sizes)))

pub lists_ok-requires : goal.lists_ok-requires
lists_ok-requires c = record { n_in_bounds = (omega (arith, c.requires.header_ok, c.args.of.sizes), omega (arith, c.requires.header_ok, c.requires.generation_in_bounds.0), (holds c.unused_ok.ensures c.if-not-unused_ok.false).kind, c.requires.generation_in_bounds.1); n_in_bounds_2 = omega (arith, c.requires.header_ok) }

pub returns : goal.returns
returns c = says-last c.lists_ok.ensures (λ z. record {
  unused = holds c.unused_ok.ensures c.if-not-unused_ok.false;
  slots = holds c.slots_ok.ensures c.if-not-slots_ok.false;
  pool = rw (sym c.begins.ensures) (holds-zeros c.begins.result c.args.of.pool.now c.all_zero.ensures c.if-not-all_zero.false);
  seals = sym c.seals_ok.ensures ∙ c.if-not-seals_ok.false;
  lists = z;
}) (λ y. y.lists)
