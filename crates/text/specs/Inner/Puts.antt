-- What a call leaves that puts a text into a list.
use Rattle.std.specs.Prelude.{ℕ, ◌+◌, List, ◌≡◌, length}
use Rattle.text.specs.Put.{put_text}

-- a call put `text` into `out` from `at` on, and answered where it ends
pub record Puts (before after : List ℕ) (at r : ℕ) (text : List ℕ) : Type 0 where
  pub next : r ≡ at + length text
  pub out : after ≡ put_text before at text
