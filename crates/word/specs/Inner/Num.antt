-- Aligning as code answers it: nothing where the multiple is too wide.
use Rattle.std.specs.Prelude.{ℕ, ◌^◌, ltb, if◌then◌else◌, Option, Some, None}
use Rattle.word.specs.Num.{align_up}

-- the first multiple of a from x on, where it has w bits
unfoldable pub aligned_at : (w x a : ℕ) → Option ℕ
aligned_at w x a = if ltb (align_up x a) (2 ^ w) then Some (align_up x a) else None
