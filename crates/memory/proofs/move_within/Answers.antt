-- `memory::move_within` meets its contract.
use Rattle.memory.proofs.Turns.{put-stays}
use Rattle.memory.proofs.move_within.Goals as goal

pub returns-then-to-from : goal.returns-then-to-from
returns-then-to-from g c = put-stays _ _ _ _ c.if-to-from.true
