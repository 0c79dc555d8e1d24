-- `shelves::Shelf::after` meets its contract.
use Rattle.shelves.proofs.Telling.{after_is}
use Rattle.shelves.proofs.Shelf.after.Goals as goal

pub returns : goal.returns
returns c = after_is c.args.self _ _ _ c.requires.0 c.requires.1 c.requires.2 c.requires.3 c.merged.ensures c.due.ensures
