use Rattle.page_parser.proofs.Heads.{its-count, no-count}
use Rattle.page_parser.proofs.retired_count.Goals as goal

pub returns-then-retiring : goal.returns-then-retiring
returns-then-retiring c = search its-count

pub returns : goal.returns
returns c = search no-count
