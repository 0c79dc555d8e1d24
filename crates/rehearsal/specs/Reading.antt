-- The lines of a rehearsal as they are read. That a text is read as lines exactly if it is the text of these is the law `read-exactly` (proofs/Reading.antt).
use Rattle.std.specs.Prelude.{ℕ, zero, suc, Bool, true, false, length}
use mathlib.Core.List.{List, [], ◌∷◌}
use Rattle.std.proofs.Math.Option.{Option, none, some}
use Rattle.text.specs.Text.{ascii, newline, comma, read_literal}
use Rattle.text.specs.Reading.{Reader, give, named, ◌>>=◌}
use Rattle.text.specs.Format.{Format, number, pair}
use Rattle.script.specs.Reading.{alloc_format}
use Rattle.rehearsal.specs.Lines.{Line, alloc, store, drop}

unfoldable pub store_format : Format (ℕ × (ℕ × ℕ))
store_format = pair (number 64 comma) λ _. pair (number 64 comma) λ _. number 64 newline

unfoldable pub read_alloc : Reader Line
read_alloc t = alloc_format.read t >>= λ r. give (alloc r.0.0 r.0.1.0 r.0.1.1) r.1

unfoldable pub read_store : Reader Line
read_store t = store_format.read t >>= λ r. give (store r.0.0 r.0.1.0 r.0.1.1) r.1

unfoldable pub read_drop : Reader Line
read_drop t = (number 64 newline).read t >>= λ r. give (drop r.0) r.1

unfoldable pub read_line : Reader Line
read_line t =
    named (read_literal (ascii "alloc,") t) read_alloc
    (named (read_literal (ascii "store,") t) read_store
    (named (read_literal (ascii "drop,") t) read_drop none))

-- at most n lines, to the end of the text
unfoldable pub read_most : ℕ → List ℕ → Option (List Line)
read_most zero [] = some []
read_most zero (b ∷ t) = none
read_most (suc n) [] = some []
read_most (suc n) (b ∷ t) = read_line (b ∷ t) >>= λ r. read_most n r.1 >>= λ ls. some (r.0 ∷ ls)

-- the lines of a text; none: 17
unfoldable pub read_lines : List ℕ → Option (List Line)
read_lines t = read_most (length t) t

abbrev pub is_read : Option (List Line) → Bool
is_read none = false
is_read (some ls) = true

-- is the text lines?
unfoldable pub is_text : List ℕ → Bool
is_text t = is_read (read_lines t)
