-- The set digits of a number, lowest first.
use Rattle.std.specs.Prelude.{List, [], ℕ, zero, suc, ◌/◌, ◌%◌, eqb}
use Rattle.word.specs.Ones.{keep}

-- the places of the set digits among the n lowest of x, rising, with b added to each
unfoldable pub ones_from : (n x b : ℕ) → List ℕ
ones_from zero x b = []
ones_from (suc n) x b = keep (eqb (x % 2) 1) b (ones_from n (x / 2) (suc b))
