-- `Pins::hold` meets its contract.
use Rattle.heap_calls.proofs.Searching.{found-member}
use Rattle.heap_calls.proofs.pinned.PinsPinned.hold.Goals as goal

pub returns : goal.returns
returns c = found-member _ _ _ _ c.args.self.rises c.binary_search.ensures.position c.is_ok.ensures.value
