use mathlib.Core.Path.{◌∙◌}
use Rattle.text.specs.Text.{ascii}
use Rattle.page_runs.specs.Printed.{names_line}
use Rattle.page_runs.proofs.Starting.{named-told}
use Rattle.page_runs.proofs.named.Goals as goal

pub returns : goal.returns
unfolding names_line ascii
returns c = c.is_some.ensures ∙ named-told c.args.s.now _ c.expect.ensures
