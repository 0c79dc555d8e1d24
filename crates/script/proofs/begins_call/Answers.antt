-- `script::begins_call` meets its contract.
use Rattle.std.proofs.Common.{rules, ◌∙◌}
use Rattle.script.proofs.Scripts.{begins-nothing}
use Rattle.script.proofs.Finding.{first-begins}
use Rattle.script.proofs.begins_call.Goals as goal

pub returns-then-s-eq0 : goal.returns-then-s-eq0
returns-then-s-eq0 c = search (begins-nothing, rules)

pub returns-else-s-eq0 : goal.returns-else-s-eq0
returns-else-s-eq0 c = c.is_some.ensures ∙ first-begins c.args.s.now c.read_line.result c.read_line.ensures c.if-s-eq0.false
