use Rattle.text.proofs.Laws.{decimal-length, decimal-length-one, decimal-length-more}
use native.Mathlib.Omega.{arith}
use mathlib.Core.Path.{sym, ap, ◌∙◌}
use Prim.Native.Nat.{◌+◌, ◌/◌, ℕ}
use Rattle.text.proofs.+decimal_len.Goals as goal

pub decimal_len-requires : goal.decimal_len-requires
decimal_len-requires t c = (omega arith, tt)

pub overflow_add-result : goal.overflow_add-result
overflow_add-result t c = omega (arith, decimal-length 19 (c.args.n / 10) (omega arith), c.decimal_len.ensures)

pub returns-then-n-lt10 : goal.returns-then-n-lt10
returns-then-n-lt10 t c = sym (decimal-length-one c.args.n c.if-n-lt10.true)

pub returns-else-n-lt10 : goal.returns-else-n-lt10
returns-else-n-lt10 t c = ap (λ (m : ℕ). m + 1) c.decimal_len.ensures ∙ sym (decimal-length-more c.args.n c.if-n-lt10.false)
