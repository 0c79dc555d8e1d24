-- `figures::Figures::merged` meets its contract.
use mathlib.Core.Path.{refl}
use Rattle.figures.proofs.Totals.{figures-same}
use Rattle.figures.proofs.Figures.merged.Goals as goal

pub returns : goal.returns
returns c = figures-same _ _ refl refl c.max.ensures
