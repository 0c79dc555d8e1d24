-- `heap_check::unused_ok` meets its contract: a column that is not zero is refused.
use Rattle.heap_check.proofs.CheckLoops.{says-yes, no-more-zeros, holds-zeros}
use Rattle.heap_check.proofs.unused_ok.Goals as goal

pub returns-then-not-all_zero : goal.returns-then-not-all_zero
returns-then-not-all_zero c = no-more-zeros c.args.heap.slots c.args.of.generation.now c.all_zero.ensures c.if-not-all_zero.true (λ y. y.generation)

pub returns-then-not-all_zero-2 : goal.returns-then-not-all_zero-2
returns-then-not-all_zero-2 c = no-more-zeros c.args.heap.slots c.args.of.kind.now c.all_zero-2.ensures c.if-not-all_zero-2.true (λ y. y.kind)

pub returns-then-not-all_zero-3 : goal.returns-then-not-all_zero-3
returns-then-not-all_zero-3 c = no-more-zeros c.args.heap.slots c.args.of.ty.now c.all_zero-3.ensures c.if-not-all_zero-3.true (λ y. y.type)

pub returns-then-not-all_zero-4 : goal.returns-then-not-all_zero-4
returns-then-not-all_zero-4 c = no-more-zeros c.args.heap.slots c.args.of.start.now c.all_zero-4.ensures c.if-not-all_zero-4.true (λ y. y.start)

pub returns-then-not-all_zero-5 : goal.returns-then-not-all_zero-5
returns-then-not-all_zero-5 c = no-more-zeros c.args.heap.slots c.args.of.end.now c.all_zero-5.ensures c.if-not-all_zero-5.true (λ y. y.end)

pub returns-then-not-all_zero-6 : goal.returns-then-not-all_zero-6
returns-then-not-all_zero-6 c = no-more-zeros c.args.heap.slots c.args.of.writes.now c.all_zero-6.ensures c.if-not-all_zero-6.true (λ y. y.writes)

pub returns-then-not-all_zero-7 : goal.returns-then-not-all_zero-7
returns-then-not-all_zero-7 c = no-more-zeros c.args.heap.free c.args.of.free.now c.all_zero-7.ensures c.if-not-all_zero-7.true (λ y. y.free)

pub returns-then-not-all_zero-8 : goal.returns-then-not-all_zero-8
returns-then-not-all_zero-8 c = no-more-zeros c.args.heap.quarantine c.args.of.quarantine.now c.all_zero-8.ensures c.if-not-all_zero-8.true (λ y. y.quarantine)

pub returns-then-not-all_zero-9 : goal.returns-then-not-all_zero-9
returns-then-not-all_zero-9 c = no-more-zeros c.args.heap.sealed c.args.of.sealed.now c.all_zero-9.ensures c.if-not-all_zero-9.true (λ y. y.sealed)

pub returns-then-not-all_zero-10 : goal.returns-then-not-all_zero-10
returns-then-not-all_zero-10 c = no-more-zeros c.args.heap.retired c.args.of.retired.now c.all_zero-10.ensures c.if-not-all_zero-10.true (λ y. y.retired)

pub returns : goal.returns
returns c = says-yes (record {
  generation = holds-zeros c.args.heap.slots c.args.of.generation.now c.all_zero.ensures c.if-not-all_zero.false;
  kind = holds-zeros c.args.heap.slots c.args.of.kind.now c.all_zero-2.ensures c.if-not-all_zero-2.false;
  type = holds-zeros c.args.heap.slots c.args.of.ty.now c.all_zero-3.ensures c.if-not-all_zero-3.false;
  start = holds-zeros c.args.heap.slots c.args.of.start.now c.all_zero-4.ensures c.if-not-all_zero-4.false;
  end = holds-zeros c.args.heap.slots c.args.of.end.now c.all_zero-5.ensures c.if-not-all_zero-5.false;
  writes = holds-zeros c.args.heap.slots c.args.of.writes.now c.all_zero-6.ensures c.if-not-all_zero-6.false;
  free = holds-zeros c.args.heap.free c.args.of.free.now c.all_zero-7.ensures c.if-not-all_zero-7.false;
  quarantine = holds-zeros c.args.heap.quarantine c.args.of.quarantine.now c.all_zero-8.ensures c.if-not-all_zero-8.false;
  sealed = holds-zeros c.args.heap.sealed c.args.of.sealed.now c.all_zero-9.ensures c.if-not-all_zero-9.false;
  retired = holds-zeros c.args.heap.retired c.args.of.retired.now c.all_zero-10.ensures c.if-not-all_zero-10.false;
})
