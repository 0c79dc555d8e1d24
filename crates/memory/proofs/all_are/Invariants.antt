-- `memory::all_are` meets its contract: the elements so far are compared.
use Rattle.std.proofs.Common.{◌≡◌, take}
use Rattle.std.specs.List.{list_all}
use Rattle.memory.proofs.all_are.Given as goal

abbrev pub invariant-loop-x : goal.invariant-loop-x
invariant-loop-x g l = l.same ≡ list_all (λ x. g.T.PartialEq.eq x l.v) (take l.x-index l.s)
