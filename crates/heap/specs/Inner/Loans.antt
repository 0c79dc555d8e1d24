-- What a call leaves of a lent heap.
use Rattle.std.specs.Prelude.{◌≡◌, ℕ}
use Rattle.heap.specs.State.{State}
use Rattle.heap.specs.Lent.{Lent, lent, view}
use Rattle.refusal.specs.Told.{Reply}
use Rattle.heap.specs.Done.{Leaves}
use Rattle.heap.specs.Inner.Tells.{Tells}
use Rattle.heap.specs.Calls.{Changed}
use Rattle.heap.specs.declared.view_mut.ViewMut.{ViewMut}

-- what is lent, and the heap that lies there
abbrev pub lies : ViewMut → Lent
lies l = lent l.heap l.narrow.now l.wide.now l.pool.now

abbrev pub state : ViewMut → State
state l = view (lies l)

-- it holds the same loans
pub record SameLoans (l l' : ViewMut) : Type 0 where
  pub narrow : l'.narrow.ghost_name ≡ l.narrow.ghost_name
  pub wide : l'.wide.ghost_name ≡ l.wide.ghost_name
  pub pool : l'.pool.ghost_name ≡ l.pool.ghost_name

-- the memory that was lent holds the heap h
pub record Becomes (l l' : ViewMut) (h : State) : Type 0 where
  pub loans : SameLoans l l'
  pub leaves : Leaves (lies l) (lies l') h

-- it holds what the call leaves, and the reply is the call's; `first` and `second` read the numbers off its value
pub record Replies {A : Type 0} (first second : A → ℕ) (l l' : ViewMut) (reply : Reply) (call : Changed A) : Type 0 where
  pub loans : SameLoans l l'
  pub tells : Tells first second (lies l) (lies l') reply call
