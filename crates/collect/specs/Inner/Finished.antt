-- A collection of a known heap: what follows its marking.
use Rattle.std.specs.Prelude.{List, ℕ, Result, Ok, Err}
use Rattle.heap.specs.State.{State}
use Rattle.heap.specs.Calls.{Changed, refuse, done}
use Rattle.collection.specs.Swept.{swept}
use Rattle.refusal.specs.declared.Refusal.{Refusal}
use Rattle.refusal.specs.Told.{number_of}

-- what follows a marking with this answer: its refusal, untraceable (13), and the heap unchanged, or the sweep by the marks
abbrev pub finished : Result Unit Refusal → (marks pins : List ℕ) → State → Changed Unit
finished (Ok u) marks pins h = done tt (swept h marks pins)
finished (Err why) marks pins h = refuse (number_of why) h
