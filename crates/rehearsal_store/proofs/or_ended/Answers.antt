-- `rehearsal_store::or_ended` meets its contract.
use Rattle.rehearsal_store.proofs.Stored.{ended_so}
use Rattle.rehearsal_store.proofs.or_ended.Goals as goal

pub returns : goal.returns
returns c = ended_so c.args.g _ c.if-went.false
