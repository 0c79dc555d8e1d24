-- What a text that is put into a list of bytes leaves there.
use Rattle.std.specs.Prelude.{ℕ, List, length}
use Rattle.word.specs.Put.{put}

-- `text`, whole, from index `at` on
abbrev pub put_text : (out : List ℕ) (at : ℕ) (text : List ℕ) → List ℕ
put_text out at text = put out at text (length text)
