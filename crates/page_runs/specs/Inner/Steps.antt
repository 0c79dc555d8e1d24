-- What the parts of a step do: whole lines are cut off, and a script is run.
use Rattle.std.specs.Prelude.{ℕ, ◌≤◌, ◌<◌, Bool, true, false, List, ◌≡◌, length, take, get_or}
use Rattle.std.specs.Prelude.{Result as Outcome, Ok, Err}
use Rattle.std.proofs.Math.Option.{Option, none, some}
use Rattle.word.specs.Result.{refused}
use Rattle.text.specs.Text.{newline}
use Rattle.heap.specs.Lent.{Lent, view}
use Rattle.heap.specs.Calls.{done}
use Rattle.script.specs.Script.{ends_line, run_script}
use Rattle.page_runs.specs.declared.At.{At}
use Rattle.page_runs.specs.declared.At.TheVariants.{Names, Lines, Over}
use Rattle.page_runs.specs.declared.Run.{Run}
use Rattle.page_runs.specs.Steps.{Lies}

-- the heap that a script leaves, or the number of its refusal
abbrev pub Says : (l l' : Lent) (script : List ℕ) → Outcome Unit ℕ → Type 0
Says l l' script (Ok u) = run_script 64 4096 script (view l) ≡ done tt (view l')
Says l l' script (Err n) = (run_script 64 4096 script (view l)).answer ≡ refused n

-- a script was run, and the run stands where it stood
pub record Ran (r : Run) (l : Lent) (script : List ℕ) (r' : Run) (l' : Lent) (answer : Outcome Unit ℕ) : Type 0 where
  pub heap : Lies l'
  pub at : r'.at ≡ r.at
  pub held : r'.held ≡ r.held
  pub says : Says l l' script answer

-- the first r bytes are whole lines, and no line ends after them
pub record Cut (t : List ℕ) (r : ℕ) : Type 0 where
  pub inside : r ≤ length t
  pub lines : ends_line (take r t) ≡ true
  pub later : (j : ℕ) → r ≤ j → j < length t → get_or t j 0 ≡ newline → ⊥

abbrev pub is_there : Option (List ℕ) → Bool
is_there none = false
is_there (some t) = true

abbrev pub is_over : At → Bool
is_over Names = false
is_over Lines = false
is_over (Over n) = true

-- a run at its end
abbrev pub over_with : Run → ℕ → Run
over_with r n = record { heap = r.heap; at = Over n; held = 0 }
