-- `wanted_door::pick::Search::candidates` meets its contract.
use Rattle.wanted.specs.Search.{upward}
use Rattle.wanted_door.specs.Inner.Picking.{going_in}
use Rattle.wanted_door.specs.Inner.Searching.{graph, slots}
use Rattle.wanted_door.proofs.Goings.{Upward}
use Rattle.wanted_door.proofs.pick.Search.candidates.Given as goal

abbrev pub invariant-loop-w : goal.invariant-loop-w
invariant-loop-w l = Upward (graph l.self) (slots l.self) l.self.wanted.now l.initial.queue (upward (graph l.self) (slots l.self) l.self.wanted.now (going_in l.initial.queue)) l.queue l.w-index
