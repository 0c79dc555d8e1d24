-- `memory::all_zero` meets its contract: the numbers so far are or-ed.
use Rattle.std.proofs.Common.{◌≡◌, nat_eq, take}
use Rattle.std.specs.List.{list_all}
use Rattle.memory.proofs.all_zero.Given as goal

abbrev pub invariant-loop-x : goal.invariant-loop-x
invariant-loop-x g l = nat_eq (g.T.Bits.number l.seen) 0 ≡ list_all (λ x. nat_eq (g.T.Bits.number x) 0) (take l.x-index l.s)
