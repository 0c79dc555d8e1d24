use Rattle.planes.proofs.Turns.{the-byte}
use Rattle.planes.proofs.plane_byte.Goals as goal

pub returns : goal.returns
returns c = search the-byte
