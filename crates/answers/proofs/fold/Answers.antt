-- `answers::fold` meets its contract.
use Rattle.std.proofs.Common.{rules}
use Rattle.std.proofs.lemmas.List.Edits.{map_over_more}
use Rattle.answers.specs.Inner.Folding.{folded}
use Rattle.answers.proofs.fold.Goals as goal

pub loop-b-preserved : goal.loop-b-preserved
loop-b-preserved c = search (rules, map_over_more folded)
