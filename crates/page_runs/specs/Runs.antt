-- A run of the program `page`, step by step, and that it prints what is defined for its whole input.
use Rattle.std.specs.Prelude.{ℕ, Bool, List, [], ◌++◌, ◌≡◌, take}
use Rattle.heap.specs.Lent.{Lent, view}
use Rattle.page_runs.specs.declared.At.TheVariants.{Over}
use Rattle.page_runs.specs.declared.Run.{Run}
use Rattle.page_runs.specs.Printed.{printed}
use Rattle.page_runs.specs.Steps.{text_left, Begun, Goes, Ends}

-- what the last step puts
abbrev pub Last : (failed : Bool) → Run → Lent → (buf out : List ℕ) → ℕ → Type 0
Last failed r l buf out to = Ends (text_left r.at failed (view l) (take r.held buf)) out to

-- what a run from r prints: each part of the input is read into the buffer after what is held there, until the input ends or the run is over
pub data Runs (failed : Bool) : Run → Lent → (buf input text : List ℕ) → Type 0 where
  ended : {r : Run} {l : Lent} {buf input text out : List ℕ} {to : ℕ} → input ≡ [] → Last failed r l buf out to → text ≡ take to out → Runs failed r l buf input text
  over : {r : Run} {l : Lent} {buf input text out : List ℕ} {to n : ℕ} → r.at ≡ Over n → Last failed r l buf out to → text ≡ take to out → Runs failed r l buf input text
  goes : {r r' : Run} {l l' : Lent} {buf buf' input text : List ℕ} (part rest full : List ℕ) → input ≡ part ++ rest → full ≡ take r.held buf ++ part → Goes r.at l full r' l' buf' →
      Runs failed r' l' buf' rest text → Runs failed r l buf input text

-- A RUN PRINTS, from its start, the text that is defined for the whole input, however that came in parts
abbrev pub RunPrints : Type 0
RunPrints = (failed : Bool) (r : Run) (l : Lent) (buf input text : List ℕ) → Begun r l → Runs failed r l buf input text → text ≡ printed failed input
