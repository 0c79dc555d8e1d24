-- `compare::put_turns` meets its contract.
use Rattle.compare.proofs.TurnsPut.{raised-turn, turned_on}
use Rattle.compare.proofs.put_turns.Goals as goal

pub put_each-requires : goal.put_each-requires
put_each-requires c = raised-turn _ _ _ c.raise_all.ensures c.requires

pub returns : goal.returns
returns c = turned_on _ _ _ c.raise_all.ensures c.requires _ c.put_each.ensures
