-- `traced::trace_object` meets its contract.
use Rattle.traced.proofs.Slots.{object-words}
use Rattle.traced.proofs.trace_object.Goals as goal

pub returns : goal.returns
returns c = object-words _ _ _ _ _ _ _ _ c.trace_whole.ensures
