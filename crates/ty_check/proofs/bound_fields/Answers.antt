use mathlib.Core.Path.{refl}
use Rattle.ty.proofs.Laws.{on}
use Rattle.ty.proofs.WalkLaws.{fields-first}
use Rattle.ty_check.proofs.BoundLaws.{bound-last, bound-more}
use Rattle.ty_check.proofs.bound_fields.Goals as goal

pub loop-j-init : goal.loop-j-init
loop-j-init c = rw fields-first refl

pub loop-j-preserved : goal.loop-j-preserved
loop-j-preserved c = search (bound-more, on)

pub returns : goal.returns
returns c = search (bound-last, on)
