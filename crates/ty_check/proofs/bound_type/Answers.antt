-- `ty_check::bound_type` meets its contract.
use mathlib.Core.Path.{sym, ◌∙◌}
use Rattle.ty.proofs.Ranges.{record-within}
use Rattle.ty_check.proofs.BoundLaws.{bound-array, bound-record, bound-leaf, bound-none}
use Rattle.ty_check.proofs.bound_type.Goals as goal

pub bound_fields-bound-requires : goal.bound_fields-bound-requires
bound_fields-bound-requires c = (record-within _ _ _ _ _ _ (sym c.ty_at.ensures ∙ c.in-Some.is) c.in-Record.is, c.requires)

pub returns-in-Array : goal.returns-in-Array
returns-in-Array c = bound-array _ _ _ _ _ (sym c.ty_at.ensures ∙ c.in-Some.is) _ _ _ _ _ c.in-Array.is c.bound_at.ensures c.capped.ensures

pub returns-in-Record : goal.returns-in-Record
returns-in-Record c = bound-record _ _ _ _ _ (sym c.ty_at.ensures ∙ c.in-Some.is) _ _ _ c.in-Record.is c.bound_fields-bound.ensures

pub returns-in_default : goal.returns-in_default
returns-in_default c = bound-none _ _ _ _ (sym c.ty_at.ensures ∙ c.in_default.is)

pub returns-in_default-e : goal.returns-in_default-e
returns-in_default-e c = bound-leaf _ _ _ _ _ (sym c.ty_at.ensures ∙ c.in-Some.is) c.in_default-e.not-Array c.in_default-e.not-Record
