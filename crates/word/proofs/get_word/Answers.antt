-- `word::get_word` meets its contract: the sum is the number.
use mathlib.Core.Path.{refl}
use Prim.Native.Nat.{◌+◌}
use native.Mathlib.Omega.{arith}
use Rattle.word.proofs.LeLaws.{le-word}
use Rattle.word.proofs.get_word.Goals as goal

pub overflow_cast-result : goal.overflow_cast-result
overflow_cast-result c = omega (arith, (c.type_inv.s c.args.at).fits)

pub overflow_cast-result-2 : goal.overflow_cast-result-2
overflow_cast-result-2 c = omega (arith, (c.type_inv.s (c.args.at + 1)).fits)

pub overflow_mul-result : goal.overflow_mul-result
overflow_mul-result c = omega (arith, (c.type_inv.s (c.args.at + 1)).fits)

pub overflow_add-result-2 : goal.overflow_add-result-2
overflow_add-result-2 c = omega (arith, (c.type_inv.s c.args.at).fits, (c.type_inv.s (c.args.at + 1)).fits)

pub overflow_cast-result-3 : goal.overflow_cast-result-3
overflow_cast-result-3 c = omega (arith, (c.type_inv.s (c.args.at + 2)).fits)

pub overflow_mul-result-2 : goal.overflow_mul-result-2
overflow_mul-result-2 c = omega (arith, (c.type_inv.s (c.args.at + 2)).fits)

pub overflow_add-result-4 : goal.overflow_add-result-4
overflow_add-result-4 c = omega (arith, (c.type_inv.s c.args.at).fits, (c.type_inv.s (c.args.at + 1)).fits, (c.type_inv.s (c.args.at + 2)).fits)

pub overflow_cast-result-4 : goal.overflow_cast-result-4
overflow_cast-result-4 c = omega (arith, (c.type_inv.s (c.args.at + 3)).fits)

pub overflow_mul-result-3 : goal.overflow_mul-result-3
overflow_mul-result-3 c = omega (arith, (c.type_inv.s (c.args.at + 3)).fits)

pub overflow_add-result-6 : goal.overflow_add-result-6
overflow_add-result-6 c = omega (arith, (c.type_inv.s c.args.at).fits, (c.type_inv.s (c.args.at + 1)).fits, (c.type_inv.s (c.args.at + 2)).fits, (c.type_inv.s (c.args.at + 3)).fits)

pub overflow_cast-result-5 : goal.overflow_cast-result-5
overflow_cast-result-5 c = omega (arith, (c.type_inv.s (c.args.at + 4)).fits)

pub overflow_mul-result-4 : goal.overflow_mul-result-4
overflow_mul-result-4 c = omega (arith, (c.type_inv.s (c.args.at + 4)).fits)

pub overflow_add-result-8 : goal.overflow_add-result-8
overflow_add-result-8 c = omega (arith, (c.type_inv.s c.args.at).fits, (c.type_inv.s (c.args.at + 1)).fits, (c.type_inv.s (c.args.at + 2)).fits, (c.type_inv.s (c.args.at + 3)).fits, (c.type_inv.s (c.args.at + 4)).fits)

pub overflow_cast-result-6 : goal.overflow_cast-result-6
overflow_cast-result-6 c = omega (arith, (c.type_inv.s (c.args.at + 5)).fits)

pub overflow_mul-result-5 : goal.overflow_mul-result-5
overflow_mul-result-5 c = omega (arith, (c.type_inv.s (c.args.at + 5)).fits)

pub overflow_add-result-10 : goal.overflow_add-result-10
overflow_add-result-10 c = omega (arith, (c.type_inv.s c.args.at).fits, (c.type_inv.s (c.args.at + 1)).fits, (c.type_inv.s (c.args.at + 2)).fits, (c.type_inv.s (c.args.at + 3)).fits, (c.type_inv.s (c.args.at + 4)).fits, (c.type_inv.s (c.args.at + 5)).fits)

pub overflow_cast-result-7 : goal.overflow_cast-result-7
overflow_cast-result-7 c = omega (arith, (c.type_inv.s (c.args.at + 6)).fits)

pub overflow_mul-result-6 : goal.overflow_mul-result-6
overflow_mul-result-6 c = omega (arith, (c.type_inv.s (c.args.at + 6)).fits)

pub overflow_add-result-12 : goal.overflow_add-result-12
overflow_add-result-12 c = omega (arith, (c.type_inv.s c.args.at).fits, (c.type_inv.s (c.args.at + 1)).fits, (c.type_inv.s (c.args.at + 2)).fits, (c.type_inv.s (c.args.at + 3)).fits, (c.type_inv.s (c.args.at + 4)).fits, (c.type_inv.s (c.args.at + 5)).fits, (c.type_inv.s (c.args.at + 6)).fits)

pub overflow_cast-result-8 : goal.overflow_cast-result-8
overflow_cast-result-8 c = omega (arith, (c.type_inv.s (c.args.at + 7)).fits)

pub overflow_mul-result-7 : goal.overflow_mul-result-7
overflow_mul-result-7 c = omega (arith, (c.type_inv.s (c.args.at + 7)).fits)

pub overflow_add-result-14 : goal.overflow_add-result-14
overflow_add-result-14 c = omega (arith, (c.type_inv.s c.args.at).fits, (c.type_inv.s (c.args.at + 1)).fits, (c.type_inv.s (c.args.at + 2)).fits, (c.type_inv.s (c.args.at + 3)).fits, (c.type_inv.s (c.args.at + 4)).fits, (c.type_inv.s (c.args.at + 5)).fits, (c.type_inv.s (c.args.at + 6)).fits, (c.type_inv.s (c.args.at + 7)).fits)

pub returns : goal.returns
returns c = le-word c.args.s.now c.args.at c.requires _ _ _ _ _ _ _ _ refl refl refl refl refl refl refl refl
