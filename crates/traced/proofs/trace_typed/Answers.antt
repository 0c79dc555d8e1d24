-- `traced::trace_typed` meets its contract.
use Rattle.traced.proofs.Slots.{slot-typed}
use Rattle.traced.proofs.trace_typed.Goals as goal

pub returns : goal.returns
returns c = search slot-typed
