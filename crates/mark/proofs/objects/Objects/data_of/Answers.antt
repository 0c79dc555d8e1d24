-- `mark::objects::Objects::data_of` meets its contract.
use native.Mathlib.Omega.{arith}
use Rattle.mark.proofs.TracedIntoQueue.{slot-rises, slot-ends, slot-data}
use Rattle.mark.proofs.objects.Objects.data_of.Goals as goal

pub slice_bounds-result-count : goal.slice_bounds-result-count
slice_bounds-result-count c = slot-rises _ _ _ _ _ c.args.self.fit _ c.requires _ c.start_of-from.ensures

pub slice_bounds-result-start : goal.slice_bounds-result-start
slice_bounds-result-start c = omega (arith, slot-rises _ _ _ _ _ c.args.self.fit _ c.requires _ c.start_of-from.ensures)

pub slice_bounds-result-end : goal.slice_bounds-result-end
slice_bounds-result-end c = omega (arith, slot-ends _ _ _ _ _ c.args.self.fit _ c.requires _ c.start_of-from.ensures)

pub returns : goal.returns
returns c = slot-data _ _ _ _ _ c.args.self.fit _ c.requires _ c.start_of-from.ensures
