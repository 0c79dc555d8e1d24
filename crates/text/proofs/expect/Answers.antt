use native.Mathlib.Omega.{arith}
use lib.ListN.{length-drop}
use Rattle.text.proofs.Getting.{literal-past, literal-missing}
use Rattle.text.proofs.expect.Goals as goal

pub returns-then-starts_with : goal.returns-then-starts_with
returns-then-starts_with c = literal-past c.args.literal.now c.args.s.now c.args.at c.starts_with.ensures.value c.if-starts_with.true (omega (arith, length-drop c.args.at c.args.s.now))

pub returns-else-starts_with : goal.returns-else-starts_with
returns-else-starts_with c = literal-missing c.args.literal.now c.args.s.now c.args.at c.starts_with.ensures.value c.if-starts_with.false
