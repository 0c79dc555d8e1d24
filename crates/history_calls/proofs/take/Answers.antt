-- `history_calls::take` meets its contract: that of the public call, its output apart.
use Rattle.history_calls.proofs.Taking.{call-of}
use Rattle.history_calls.proofs.take.Goals as goal

pub returns : goal.returns
returns c = search call-of
