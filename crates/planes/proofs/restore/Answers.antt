use Rattle.planes.proofs.Turns.{scatter-room, both}
use Rattle.std.proofs.Common.{rules}
use Rattle.planes.proofs.restore.Goals as goal

pub scatter-requires : goal.scatter-requires
scatter-requires c = search (rules, scatter-room)

pub returns : goal.returns
returns c = search both
