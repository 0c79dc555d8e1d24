use Rattle.pages.proofs.Whole.{measured}
use Rattle.pages.proofs.measure.Goals as goal

pub returns : goal.returns
returns c = measured c.page_len-n.ensures
