-- `text::count_hex` meets its contract.
use Rattle.text.proofs.Getting.{run-counted}
use Rattle.text.proofs.count_hex.Goals as goal

pub returns : goal.returns
returns c = search run-counted
