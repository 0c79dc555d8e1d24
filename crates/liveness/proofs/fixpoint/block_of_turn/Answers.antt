-- `liveness::fixpoint::block_of_turn` meets its contract.
use mathlib.Core.Path.{refl}
use Rattle.liveness.proofs.fixpoint.block_of_turn.Goals as goal

pub returns-then-rising : goal.returns-then-rising
returns-then-rising c = rw c.if-rising.true refl

pub returns-else-rising : goal.returns-else-rising
returns-else-rising c = rw c.if-rising.false refl
