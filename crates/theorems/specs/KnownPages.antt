-- The page of a heap that is known to be well formed: the calls without a check (held_reads) answer and write what the public calls do, whatever scratch these are lent.
-- So what the theorems say of `write_page` and `page_length` they say of these calls too, which the Rust crate and its command make.
use Rattle.std.specs.Prelude.{ℕ, Bool, true, List, ◌≡◌, length}
use Rattle.word.specs.Result.{ok}
use Rattle.refusal.specs.Told.{answered, here, nothing}
use Rattle.refusal.specs.declared.Answer.{Answer}
use Rattle.heap.specs.Lent.{Lent, view}
use Rattle.heap.specs.WellFormed.{well_formed}
use Rattle.door.specs.HeapCalls.{asked, zeros}
use Rattle.pages.specs.Form.{written}
use Rattle.pages.specs.Page.{page_text}
use Rattle.pages.specs.Answer.{text_answer, text_out}
use Rattle.page_door.specs.Page.{measuring}
use Rattle.theorems.specs.PageCalls.{Writes, Scratch}

-- a call of `yexwalu_held_write_page` on the heap in l, with planes or data, answered r: its contract
pub record WritesKnown (l : Lent) (planar : Bool) (out : List ℕ) (r : Answer) (out' : List ℕ) : Type 0 where
  pub answer : r ≡ answered here nothing (text_answer (page_text (written planar) (view l)) out)
  pub page : out' ≡ text_out (page_text (written planar) (view l)) out

-- such a call is one of `write_page`
abbrev pub KnownWritten : Type 0
KnownWritten = (l : Lent) (planar : Bool) (out : List ℕ) (r : Answer) (out' : List ℕ) → well_formed l ≡ true → WritesKnown l planar out r out'
    → (marks work : List ℕ) → Scratch l marks work → Writes l planar out marks work r out' (zeros marks) (zeros work)

-- a call of `yexwalu_held_page_length` answered r: its contract
abbrev pub MeasuresKnown : (l : Lent) (planar : Bool) (r : Answer) → Type 0
MeasuresKnown l planar r = r ≡ answered here nothing (ok (length (page_text (written planar) (view l))))

-- such a call is one of `page_length`
abbrev pub KnownMeasured : Type 0
KnownMeasured = (l : Lent) (planar : Bool) (r : Answer) → well_formed l ≡ true → MeasuresKnown l planar r
    → (marks work : List ℕ) → Scratch l marks work → asked r (zeros marks) (zeros work) ≡ measuring marks work l planar
