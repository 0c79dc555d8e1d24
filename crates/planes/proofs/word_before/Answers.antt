use Rattle.planes.proofs.Turns.{before-word}
use Rattle.planes.proofs.word_before.Goals as goal

pub returns : goal.returns
returns c = search before-word
