-- `layout::scalar_bytes` meets its contract.
use mathlib.Core.Path.{sym, ◌∙◌}
use Rattle.layout.proofs.LayLaws.{scalar-const, scalar-missing, scalar_read}
use Rattle.layout.proofs.scalar_bytes.Goals as goal

pub returns-then-c-ne-NO_CONST : goal.returns-then-c-ne-NO_CONST
returns-then-c-ne-NO_CONST c = scalar-const _ _ _ c.if-c-ne-NO_CONST.true

pub returns-in_err-e : goal.returns-in_err-e
returns-in_err-e c = c.from_residual.ensures ∙ scalar-missing _ _ _ c.if-c-ne-NO_CONST.false (sym c.ty_at.ensures ∙ c.in_err-e.was)

pub returns : goal.returns
returns c = c.scalar_size.ensures ∙ scalar_read _ _ _ c.if-c-ne-NO_CONST.false _ (sym c.ty_at.ensures ∙ c.in_ok-e.was)
