-- `shelves::take_in` meets its contract, by where the run stands.
use mathlib.Core.Path.{refl, subst}
use Rattle.shelves.specs.Steps.{GoodAt}
use Rattle.shelves.proofs.Taking.{takes_at, takes-over}
use Rattle.shelves.proofs.take_in.Goals as goal

pub take_line-requires : goal.take_line-requires
take_line-requires c = subst GoodAt c.in-Line.is c.requires

pub take_page-requires : goal.take_page-requires
take_page-requires c = subst GoodAt c.in-Page.is c.requires

pub take_over-requires : goal.take_over-requires
take_over-requires c = subst GoodAt c.in-Passing.is c.requires

pub returns-in-Line : goal.returns-in-Line
returns-in-Line c = takes_at c.in-Line.is (c.take_line.ensures _)

pub returns-in-Page : goal.returns-in-Page
returns-in-Page c = takes_at c.in-Page.is c.take_page.ensures

pub returns-in-Passing : goal.returns-in-Passing
returns-in-Passing c = takes_at c.in-Passing.is (c.take_over.ensures _)

pub returns-in-Over : goal.returns-in-Over
returns-in-Over c = takes_at c.in-Over.is (takes-over _ _ _ refl)
