-- A line of a script as it is read. That a line is read as a call exactly if it is that call's line is the law `read-exactly` (proofs/Reading.antt).
use Rattle.std.specs.Prelude.{ℕ, List, [], ◌∷◌}
use Rattle.std.proofs.Math.Option.{Option, none, some}
use Rattle.text.specs.Text.{ascii, comma, read_literal}
use Rattle.text.specs.Reading.{Reader, give, named, ◌>>=◌}
use Rattle.text.specs.Format.{Format, number, bytes_line, pair}
use Rattle.script.specs.Calls.{Call, alloc, take, seal, recycle}

unfoldable pub alloc_format : Format (ℕ × (ℕ × List ℕ))
alloc_format = pair (number 32 comma) λ _. pair (number 8 comma) λ _. bytes_line

unfoldable pub read_alloc : Reader Call
read_alloc t = alloc_format.read t >>= λ r. give (alloc r.0.0 r.0.1.0 r.0.1.1) r.1

unfoldable pub read_take : Reader Call
read_take t = (number 64 comma).read t >>= λ r. read_literal (ascii "0,\n") r.1 >>= λ u. give (take r.0) u

unfoldable pub read_call : Reader Call
read_call t =
    named (read_literal (ascii "alloc,") t) read_alloc
    (named (read_literal (ascii "take,") t) read_take
    (named (read_literal (ascii "seal,0,0,\n") t) (give seal)
    (named (read_literal (ascii "recycle,0,0,\n") t) (give recycle) none)))

-- a call with nothing after it
abbrev pub alone : Call × List ℕ → Option Call
alone (c, []) = some c
alone (c, b ∷ t) = none

-- the call whose line this is, if it is one's
unfoldable pub call_of : List ℕ → Option Call
call_of l = read_call l >>= alone
