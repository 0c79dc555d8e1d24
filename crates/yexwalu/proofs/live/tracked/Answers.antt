-- `yexwalu::live::tracked` meets its contract.
use mathlib.Core.Path.{sym, ap}
use Rattle.yexwalu.specs.Live.{asked}
use Rattle.yexwalu.proofs.live.tracked.Goals as goal

pub returns-then-all : goal.returns-then-all
returns-then-all c = ap asked (sym c.if-all.true)

pub returns-else-all : goal.returns-else-all
returns-else-all c = ap asked (sym c.if-all.false)
