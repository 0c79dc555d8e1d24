-- `wanted_door::list::write_roots` meets its contract.
use mathlib.Core.List.{map}
use Rattle.mark.specs.Inner.Scratch.{high}
use Rattle.wanted.specs.Search.{noted}
use Rattle.wanted_door.proofs.Roots.{Writes}
use Rattle.wanted_door.proofs.list.write_roots.Given as goal

abbrev pub invariant-loop-w : goal.invariant-loop-w
invariant-loop-w l = Writes l.tag l.narrow (noted 2 (map high l.work)) l.wanted l.initial.out l.out l.n l.w-index
