use Rattle.std.proofs.Common.{rules}
use Rattle.page_runs.proofs.Lines.{cut-after, cut-none}
use Rattle.page_runs.proofs.whole.Goals as goal

pub returns-in-Some : goal.returns-in-Some
returns-in-Some c = cut-after c.args.s.now c.in-Some.i (search rules) (search rules) (search rules)

pub returns-in-None : goal.returns-in-None
returns-in-None c = cut-none c.args.s.now (search rules)
