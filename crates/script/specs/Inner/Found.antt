-- What the code finds in a line of a script.
use Rattle.std.specs.Prelude.{ℕ, ◌≤◌, ◌<◌, ◌^◌, List, ◌≡◌, length, drop, Option, Some, None}
use Rattle.std.proofs.Math.Option as maybe
use Rattle.std.proofs.Math.Option.{none}
use Rattle.text.specs.Reading.{give}
use Rattle.text.specs.Inner.Answer.{hex_at, HexParsed}
use Rattle.script.specs.Calls.{Call, alloc, take, seal, recycle}
use Rattle.script.specs.declared.AllocLine.{AllocLine}
use Rattle.script.specs.declared.Line.{Line}
use Rattle.script.specs.declared.Line.TheVariants.{Alloc, Take, Seal, Recycle}

-- the data of an `alloc` line stands in hexadecimal in the text
pub record DataThere (s : List ℕ) (a : AllocLine) : Type 0 where
  pub parsed : HexParsed s a.from
  pub counted : a.count ≡ length (hex_at s a.from)
  pub narrow : a.ty < 2 ^ 32

-- what was read: the fields of an `alloc` line, with its data in the text, and the rest of the text begins at `next`
pub record AllocReads (o : maybe.Option ((ℕ × (ℕ × List ℕ)) × List ℕ)) (s : List ℕ) (a : AllocLine) (next : ℕ) : Type 0 where
  pub fields : o ≡ give (a.ty, (a.kind, hex_at s a.from)) (drop next s)
  pub there : DataThere s a
  pub inside : next ≤ length s

abbrev pub AllocRead : maybe.Option ((ℕ × (ℕ × List ℕ)) × List ℕ) → List ℕ → Option (AllocLine × ℕ) → Type 0
AllocRead o s (Some r) = AllocReads o s r.0 r.1
AllocRead o s None = o ≡ none

abbrev pub call_at : List ℕ → AllocLine → Call
call_at s a = alloc a.ty a.kind (hex_at s a.from)

-- the call of a line
abbrev pub call_in : List ℕ → Line → Call
call_in s (Alloc a) = call_at s a
call_in s (Take x) = take x
call_in s Seal = seal
call_in s Recycle = recycle

-- its data stands in the text
abbrev pub DataIn : List ℕ → Line → Type 0
DataIn s (Alloc a) = DataThere s a
DataIn s (Take x) = Unit
DataIn s Seal = Unit
DataIn s Recycle = Unit

-- what was read: the line's call, with its data in the text, and the rest of the text begins at `next`
pub record Reads (o : maybe.Option (Call × List ℕ)) (s : List ℕ) (line : Line) (next : ℕ) : Type 0 where
  pub call : o ≡ give (call_in s line) (drop next s)
  pub there : DataIn s line
  pub inside : next ≤ length s

abbrev pub LineRead : maybe.Option (Call × List ℕ) → List ℕ → Option (Line × ℕ) → Type 0
LineRead o s (Some r) = Reads o s r.0 r.1
LineRead o s None = o ≡ none
