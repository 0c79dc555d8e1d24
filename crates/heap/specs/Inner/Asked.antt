-- What the header of a heap answers.
use Rattle.std.specs.Prelude.{◌≡◌, true}
use Rattle.heap.specs.declared.Heap.{Heap}
use Rattle.heap.specs.State.{State}
use Rattle.heap.specs.Lent.{Lent, view}
use Rattle.heap.specs.WellFormed.{well_formed}

-- it is so of each well formed heap with the header
abbrev pub OfHeader : {A : Type 0} → Heap → A → (State → A) → Type 0
OfHeader heap r question = (l : Lent) → l.header ≡ heap → well_formed l ≡ true → r ≡ question (view l)
