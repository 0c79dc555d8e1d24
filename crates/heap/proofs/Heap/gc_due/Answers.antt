-- `Heap::gc_due` meets its contract.
use Rattle.std.proofs.Common.{ℕ, ltb, ap, ◌∙◌}
use Rattle.heap.proofs.Headers.{gc-says}
use Rattle.heap.proofs.Heap.gc_due.Goals as goal

pub returns : goal.returns
returns c = λ l e w. ap (λ (n : ℕ). ltb n c.args.self.since_gc) c.max.ensures ∙ gc-says l w e c.args.threshold
