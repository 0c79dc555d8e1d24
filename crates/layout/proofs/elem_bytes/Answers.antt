-- `layout::elem_bytes` meets its contract.
use mathlib.Core.Path.{sym, ◌∙◌}
use Rattle.layout.proofs.LayLaws.{elem-missing, elem_read}
use Rattle.layout.proofs.elem_bytes.Goals as goal

pub returns-in_err-e : goal.returns-in_err-e
returns-in_err-e c = c.from_residual.ensures ∙ elem-missing c.args.table.now _ (sym c.ty_at.ensures ∙ c.in_err-e.was)

pub returns : goal.returns
returns c = c.elem_size.ensures ∙ elem_read c.args.table.now _ _ (sym c.ty_at.ensures ∙ c.in_ok-e.was)
