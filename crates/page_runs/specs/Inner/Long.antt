-- A line that is longer than the buffer: all that it needs to be answered.
use Rattle.std.specs.Prelude.{ℕ, ◌^◌, ◌≤◌, ◌<◌, Bool, true, ◌&&◌, ◌||◌, List, ◌++◌, ◌≡◌, leb, length, take, get_or}
use Rattle.std.specs.Prelude.{Option as Maybe, Some, None}
use Rattle.std.proofs.Math.Option.{Option, none}
use Rattle.text.specs.Text.{ascii, newline, comma, read_literal}
use Rattle.text.specs.Reading.{◌>>=◌}
use Rattle.text.specs.Format.{number}
use Rattle.heap.specs.State.{State}
use Rattle.heap.specs.Calls.{refuse}
use Rattle.script.specs.Script.{run_script}

-- no line ends in a text
abbrev pub Open : List ℕ → Type 0
Open t = (j : ℕ) → j < length t → get_or t j 0 ≡ newline → ⊥

-- the beginning of an `alloc` line: its name, type and kind
unfoldable pub head_of : (type kind : ℕ) → List ℕ
head_of t k = ascii "alloc," ++ ((number 32 comma).print t ++ (number 8 comma).print k)

-- it is read, up to its data
unfoldable pub read_head : List ℕ → Option (ℕ × List ℕ)
read_head t = read_literal (ascii "alloc,") t >>= λ u. (number 32 comma).read u >>= λ r. (number 8 comma).read r.1

-- the data begins at r
pub record DataFrom (t : List ℕ) (r : ℕ) : Type 0 where
  pub type : ℕ
  pub kind : ℕ
  pub type_fits : type < 2 ^ 32
  pub kind_fits : kind < 2 ^ 8
  pub head : take r t ≡ head_of type kind
  pub short : r ≤ 21
  pub inside : r ≤ length t

-- where the data begins; None: it does not begin like an `alloc` line
abbrev pub HeadFound : (t : List ℕ) → Maybe ℕ → Type 0
HeadFound t (Some r) = DataFrom t r
HeadFound t None = read_head t ≡ none

abbrev pub is_hex : ℕ → Bool
is_hex b = (leb 48 b && leb b 57) || (leb 97 b && leb b 102)

abbrev pub AllHex : List ℕ → Type 0
AllHex t = (i : ℕ) → i < length t → is_hex (get_or t i 0) ≡ true

-- whatever follows, the line is no call's
abbrev pub Bad : List ℕ → Type 0
Bad t = (rest : List ℕ) (h : State) → run_script 64 4096 (t ++ rest) h ≡ refuse 17 h

-- whatever follows, a shorter text is answered alike
abbrev pub Alike : (t u : List ℕ) → Type 0
Alike t u = (rest : List ℕ) (h : State) → run_script 64 4096 (t ++ rest) h ≡ run_script 64 4096 (u ++ rest) h

-- the first r bytes of b' stand for all of b; None: it is no call's line
abbrev pub Shortens : (b b' : List ℕ) → Maybe ℕ → Type 0
Shortens b b' (Some r) = (r < 65536) × Alike b (take r b')
Shortens b b' None = Bad b
