-- `wanted_door::pick::Search::choose` meets its contract.
use Prim.Native.Nat.{◌-◌}
use lib.ListN.{length}
use Rattle.wanted.specs.Search.{downward}
use Rattle.wanted_door.specs.Inner.Picking.{going_in}
use Rattle.wanted_door.specs.Inner.Searching.{graph, slots}
use Rattle.wanted_door.proofs.Goings.{Downward}
use Rattle.wanted_door.proofs.pick.Search.choose.Given as goal

abbrev pub invariant-loop-w : goal.invariant-loop-w
invariant-loop-w l = Downward (graph l.self) (slots l.self) l.self.wanted.now l.initial.queue (downward (graph l.self) (slots l.self) l.self.wanted.now (length l.self.wanted.now) (going_in l.initial.queue)) l.queue (length l.self.wanted.now - length l.yielded)
