use mathlib.Core.Path.{◌∙◌}
use Rattle.text.proofs.Getting.{either-yes, either-no, either-none}
use Rattle.text.proofs.expect_either.Goals as goal

pub returns-in-Some : goal.returns-in-Some
returns-in-Some c = search either-yes

pub returns-in_err-b : goal.returns-in_err-b
returns-in_err-b c = c.from_residual.ensures ∙ either-none c.args.first.now c.args.second.now c.args.s.now c.args.at c.expect.ensures c.in_default.is c.expect-2.ensures c.in_err-b.was

pub returns : goal.returns
returns c = either-no c.args.first.now c.args.second.now c.args.s.now c.args.at c.expect.ensures c.in_default.is c.expect-2.ensures _ c.in_ok-b.was
