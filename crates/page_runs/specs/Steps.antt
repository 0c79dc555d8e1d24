-- What is left to be printed, by where a run stands; the contracts of `begin`, `go_on` and `finish` say that a step leaves it as it is.
use Rattle.std.specs.Prelude.{ℕ, ◌≤◌, ◌<◌, Bool, true, List, ◌++◌, ◌≡◌, take}
use Rattle.text.specs.Text.{read_literal}
use Rattle.heap.specs.State.{State}
use Rattle.heap.specs.Lent.{Lent, view, slot_count, pool_size}
use Rattle.heap.specs.WellFormed.{well_formed}
use Rattle.pages.specs.Page.{value_line}
use Rattle.script.specs.Script.{run_script}
use Rattle.page_runs.specs.declared.At.{At}
use Rattle.page_runs.specs.declared.At.TheVariants.{Names, Lines, Over}
use Rattle.page_runs.specs.declared.Run.{Run}
use Rattle.page_runs.specs.Printed.{names_line, shown, after_names, printed}

-- what is left to be printed: h the heap, `rest` the input that is held and that which is not yet read
unfoldable pub text_left : At → (failed : Bool) → State → (rest : List ℕ) → List ℕ
text_left Names failed h rest = after_names failed (read_literal names_line rest) h
text_left Lines failed h rest = shown failed (run_script 64 4096 rest h)
text_left (Over n) failed h rest = value_line n

-- lent memory of 64 slots and 4,096 bytes in which a heap lies
pub record Lies (l : Lent) : Type 0 where
  pub formed : well_formed l ≡ true
  pub slots : slot_count l ≡ 64
  pub pool : pool_size l ≡ 4096

-- fewer bytes are held than the names line has, while it is due
abbrev pub Short : At → ℕ → Type 0
Short at n = at ≡ Names → n < 23

-- a run stands where it can stand, and has room to read on
pub record Good (r : Run) (l : Lent) : Type 0 where
  pub heap : Lies l
  pub short : Short r.at r.held
  pub room : r.held < 65536

-- a run at its start
pub record Begun (r : Run) (l : Lent) : Type 0 where
  pub good : Good r l
  pub none : r.held ≡ 0
  pub same : (failed : Bool) (input : List ℕ) → printed failed input ≡ text_left r.at failed (view l) input

-- `text` was taken in, of which the first bytes of `buf` are still held
pub record Goes (at : At) (l : Lent) (text : List ℕ) (r : Run) (l' : Lent) (buf : List ℕ) : Type 0 where
  pub good : Good r l'
  pub same : (failed : Bool) (rest : List ℕ) → text_left at failed (view l) (text ++ rest) ≡ text_left r.at failed (view l') (take r.held buf ++ rest)

-- the input has ended: what was left to be printed stands in `out` up to `to`
pub record Ends (text out : List ℕ) (to : ℕ) : Type 0 where
  pub room : to ≤ 14592
  pub same : take to out ≡ text
