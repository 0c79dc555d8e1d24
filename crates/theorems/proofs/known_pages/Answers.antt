-- `theorems::known_pages` meets its contract.
use Rattle.theorems.proofs.KnownPages.{known_written, known_measured}
use Rattle.theorems.proofs.known_pages.Goals as goal

pub returns : goal.returns
returns c = record { known_written = known_written; known_measured = known_measured }
