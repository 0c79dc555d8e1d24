use mathlib.Core.Path.{refl}
use Rattle.tables.proofs.Naming.{name-ended, name-there, name-low, name-comma, name-on}
use Rattle.tables.proofs.get_name.Goals as goal

pub loop-i-init : goal.loop-i-init
loop-i-init c = refl

pub returns-then-b-eq10 : goal.returns-then-b-eq10
returns-then-b-eq10 c = search name-there

pub returns-then-b-lt32 : goal.returns-then-b-lt32
returns-then-b-lt32 c = search name-low

pub returns-then-b-eq44 : goal.returns-then-b-eq44
returns-then-b-eq44 c = search name-comma

pub loop-i-preserved : goal.loop-i-preserved
loop-i-preserved c = search name-on

pub returns : goal.returns
returns c = search name-ended
