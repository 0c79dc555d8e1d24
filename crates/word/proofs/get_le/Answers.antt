-- `word::get_le` meets its contract.
use Rattle.word.proofs.LeLaws.{le-count}
use Rattle.word.proofs.get_le.Goals as goal

pub returns-then-n-eq8 : goal.returns-then-n-eq8
returns-then-n-eq8 c = search le-count
