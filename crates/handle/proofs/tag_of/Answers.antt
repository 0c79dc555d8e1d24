use Rattle.handle.specs.Handle.{tag_of}
use borrow.Author.Rules.{rules}
use Rattle.handle.proofs.tag_of.Goals as goal

pub returns : goal.returns
unfolding tag_of
returns c = search rules
