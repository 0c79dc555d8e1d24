-- What a step leaves of a page that is written.
use Rattle.std.specs.Prelude.{ℕ, List, ◌≡◌}
use Rattle.text.specs.Inner.Puts.{Puts}
use Rattle.text.specs.declared.output.Out.{Out}

-- the same page, with `text` written after what was
pub record Wrote (o o' : Out) (text : List ℕ) : Type 0 where
  pub loan : o'.page.ghost_name ≡ o.page.ghost_name
  pub puts : Puts o.page.now o'.page.now o.at o'.at text
