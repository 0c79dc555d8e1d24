use Rattle.std.proofs.Common.{rules}
use Rattle.page_runs.proofs.Starting.{begun-there, begun-good}
use Rattle.page_runs.proofs.running.Running.begin.Goals as goal

pub invariant_of-result : goal.invariant_of-result
invariant_of-result c = record { good = search (begun-good, rules) }

pub returns : goal.returns
returns c = search (begun-there, rules)
