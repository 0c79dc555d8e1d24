-- `ty_check::count_at` meets its contract.
use Rattle.ty_check.proofs.CountLaws.{count-there, count-missing}
use Rattle.ty_check.proofs.count_at.Goals as goal

pub returns-then-i-counts : goal.returns-then-i-counts
returns-then-i-counts c = search count-there

pub returns-else-i-counts : goal.returns-else-i-counts
returns-else-i-counts c = search count-missing
