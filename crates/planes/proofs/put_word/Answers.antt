use native.Mathlib.Omega.{arith}
use Rattle.planes.proofs.Turns.{word-stored}
use Rattle.planes.proofs.put_word.Goals as goal

pub returns : goal.returns
returns c = rw c.copy_from_slice.ensures.after (word-stored c.args.d.now c.args.at _ c.args.word (omega arith) c.to_le_bytes.ensures)
