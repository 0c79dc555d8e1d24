-- `View::room` meets its contract.
use Rattle.std.proofs.Common.{◌-◌, length, ap, ◌∙◌, arith}
use Prim.Native.Nat.{ℕ}
use Rattle.heap.specs.Inner.Seen.{seen}
use Rattle.heap.proofs.Columns.{sizes, knows, used-is}
use Rattle.heap.proofs.view.View.room.Goals as goal

pub start_of-requires : goal.start_of-requires
start_of-requires c = omega (arith, sizes c.args.self.heap c.args.self.narrow.now c.args.self.wide.now c.args.self.pool.now c.args.self.formed)

pub overflow_sub-result : goal.overflow_sub-result
overflow_sub-result c = omega (arith, c.start_of.ensures, used-is (seen c.args.self) c.args.self.formed, (knows (seen c.args.self) c.args.self.formed).data-fit)

pub returns : goal.returns
returns c = ap (λ (n : ℕ). length c.args.self.pool.now - n) (c.start_of.ensures ∙ used-is (seen c.args.self) c.args.self.formed)
