use Rattle.page_runs.proofs.Heading.{no_name, no-type, no_kind, found}
use Rattle.page_runs.proofs.data_start.Goals as goal

pub returns-in_err-a : goal.returns-in_err-a
returns-in_err-a c = no_name _ _ c.expect.ensures c.from_residual.ensures c.in_err-a.was

pub returns-in_err-b : goal.returns-in_err-b
returns-in_err-b c = no-type _ _ c.expect.ensures _ c.in_ok-a.was _ c.get_field.ensures c.from_residual-in_err-b.ensures c.in_err-b.was

pub returns-in_err-c : goal.returns-in_err-c
returns-in_err-c c = no_kind _ _ c.expect.ensures _ c.in_ok-a.was _ c.get_field.ensures _ _ c.in_ok-b.was _ c.get_field-2.ensures c.from_residual-in_err-c.ensures c.in_err-c.was

pub returns : goal.returns
returns c = found _ _ c.expect.ensures _ c.in_ok-a.was _ c.get_field.ensures _ _ c.in_ok-b.was _ c.get_field-2.ensures _ _ c.in_ok-c.was
