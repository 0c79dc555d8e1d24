-- What the reader of pages answers and leaves.
use Rattle.std.specs.Prelude.{ℕ, List, ◌≡◌}
use Rattle.refusal.specs.Told.{told, answered, Reply}
use Rattle.heap.specs.Lent.{Lent}
use Rattle.page_reader.specs.Reading.{bits_met, names_met, read_into}

-- `l` before the call, `l'` after it
pub record PageRead (l l' : Lent) (text : List ℕ) (r : Reply) : Type 0 where
  pub lent : l' ≡ (read_into l text).lent
  pub answer : told r ≡ answered bits_met names_met (read_into l text).answer
