use Rattle.table_reader.proofs.Verdicts.{told_same}
use Rattle.table_reader.proofs.told_of.Goals as goal

pub returns : goal.returns
returns c = told_same c.args.x c.args.names c.from.ensures c.requires
