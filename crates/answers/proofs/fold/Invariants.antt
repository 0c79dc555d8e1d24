-- `answers::fold` meets its contract.
use mathlib.Core.Path.{◌≡◌}
use mathlib.Core.List.{◌++◌, map}
use lib.ListN.{take, drop}
use Rattle.answers.specs.Inner.Folding.{folded}
use Rattle.answers.proofs.fold.Given as goal

abbrev pub invariant-loop-b : goal.invariant-loop-b
invariant-loop-b l = l.text ≡ map folded (take l.b-index l.fn.text) ++ drop l.b-index l.fn.text
