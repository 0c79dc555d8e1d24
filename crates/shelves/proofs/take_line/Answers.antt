-- `shelves::take_line` meets its contract.
use mathlib.Core.Path.{sym, ◌∙◌}
use borrow.Author.Tests.{eqb-true}
use borrow.Author.Rules.{rules}
use Rattle.shelves.proofs.Taking.{takes_none, takes-line}
use Rattle.shelves.proofs.take_line.Goals as goal

pub returns-then-is_empty : goal.returns-then-is_empty
returns-then-is_empty c = λ held. takes_none _ held _ c.requires (eqb-true _ _ (sym c.is_empty.ensures ∙ c.if-is_empty.true))

pub returns : goal.returns
returns c = λ held. takes-line _ _ held _ _ (search rules) c.take_byte.ensures
