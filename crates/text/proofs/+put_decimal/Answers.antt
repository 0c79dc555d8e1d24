use Rattle.text.proofs.Putting.{puts_one, puts-more}
use Rattle.text.proofs.Laws.{decimal-length-one, decimal-length-more}
use native.Mathlib.Omega.{arith}
use lib.ListN.{length-set}
use Rattle.text.proofs.+put_decimal.Goals as goal

pub overflow_cast-out : goal.overflow_cast-out
overflow_cast-out t c = omega arith

pub overflow_add-out : goal.overflow_add-out
overflow_add-out t c = omega arith

pub bounds-out-at : goal.bounds-out-at
bounds-out-at t c = omega (arith, decimal-length-one c.args.n c.if-n-lt10.true)

pub overflow_add-result : goal.overflow_add-result
overflow_add-result t c = omega (arith, decimal-length-one c.args.n c.if-n-lt10.true)

pub put_decimal-k-requires : goal.put_decimal-k-requires
put_decimal-k-requires t c = (omega arith, omega (arith, decimal-length-more c.args.n c.if-n-lt10.false))

pub overflow_cast-out-else-n-lt10 : goal.overflow_cast-out-else-n-lt10
overflow_cast-out-else-n-lt10 t c = omega arith

pub overflow_add-out-else-n-lt10 : goal.overflow_add-out-else-n-lt10
overflow_add-out-else-n-lt10 t c = omega arith

pub bounds-out-k : goal.bounds-out-k
bounds-out-k t c = omega (arith, c.put_decimal-k.ensures.next, c.put_decimal-k.auto.out, decimal-length-more c.args.n c.if-n-lt10.false, c.requires)

pub overflow_add-result-else-n-lt10 : goal.overflow_add-result-else-n-lt10
overflow_add-result-else-n-lt10 t c = omega (arith, c.put_decimal-k.ensures.next, decimal-length-more c.args.n c.if-n-lt10.false, c.requires)

pub shape_of-out-then-n-lt10 : goal.shape_of-out-then-n-lt10
shape_of-out-then-n-lt10 t c = simp length-set

pub returns-then-n-lt10 : goal.returns-then-n-lt10
returns-then-n-lt10 t c = puts_one c.args.out.now c.args.at c.args.n c.if-n-lt10.true c.requires

pub shape_of-out-else-n-lt10 : goal.shape_of-out-else-n-lt10
shape_of-out-else-n-lt10 t c = simp length-set c.put_decimal-k.auto.out

pub returns-else-n-lt10 : goal.returns-else-n-lt10
returns-else-n-lt10 t c = puts-more c.args.out.now c.put_decimal-k.new.out c.args.at c.put_decimal-k.result c.args.n c.if-n-lt10.false c.requires c.put_decimal-k.ensures
