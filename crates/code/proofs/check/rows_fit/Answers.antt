use Rattle.code.proofs.Plans.{needs}
use Rattle.code.proofs.check.rows_fit.Goals as goal

pub returns : goal.returns
returns c = needs c.args.code.now _ _ _ _ c.block_count.ensures c.words.ensures c.enough.ensures
