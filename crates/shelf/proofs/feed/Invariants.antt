-- Each step takes some of what is left.
use Rattle.std.proofs.Common.{length}
use Rattle.shelf.proofs.feed.Given as goal

abbrev pub decreases-loop-rest : goal.decreases-loop-rest
decreases-loop-rest g l = length l.rest
