-- An answer is a value or a refusal, not both. Assumes nothing.
use mathlib.Core.Path.{◌≡◌}
use Prim.Native.Nat.{ℕ}
use native.Mathlib.Omega.{arith}
use Rattle.word.specs.Result.{Result, ok, refused}

pub not-refused : {A X : Type 0} {n : ℕ} {a : A} → ◌≡◌ {A = Result A} (refused n) (ok a) → X
not-refused e = let z : ◌≡◌ {A = ℕ} 0 1 = cc in absurd (omega arith)

pub not-ok : {A X : Type 0} {n : ℕ} {a : A} → ◌≡◌ {A = Result A} (ok a) (refused n) → X
not-ok e = let z : ◌≡◌ {A = ℕ} 0 1 = cc in absurd (omega arith)
