-- `shelves::take_byte` meets its contract, by its tests.
use native.Mathlib.Omega.{arith}
use mathlib.Core.Path.{sym, ap, ◌∙◌}
use Prim.Native.Nat.{◌+◌, ◌*◌, ℕ}
use Rattle.shelves.proofs.Taking.{reads_end, reads_none, reads-low, reads-high, reads-long, reads-spare, room_for, reads-digit}
use Rattle.shelves.proofs.take_byte.Goals as goal

pub returns-then-k-eq0 : goal.returns-then-k-eq0
returns-then-k-eq0 c = reads_none c.args.k c.args.n c.args.b c.if-b-eq10.true c.if-k-eq0.true

pub returns-then-b-eq10 : goal.returns-then-b-eq10
returns-then-b-eq10 c = reads_end c.args.k c.args.n c.args.b _ c.if-b-eq10.true c.if-k-eq0.false c.begun.ensures

pub returns-then-b-lt48 : goal.returns-then-b-lt48
returns-then-b-lt48 c = reads-low c.args.k c.args.n c.args.b c.if-b-eq10.false c.if-b-lt48.true

pub returns-then-b-gt57 : goal.returns-then-b-gt57
returns-then-b-gt57 c = reads-high c.args.k c.args.n c.args.b c.if-b-gt57.true

pub returns-then-k-eq18 : goal.returns-then-k-eq18
returns-then-k-eq18 c = reads-long c.args.k c.args.n c.args.b c.if-b-lt48.false c.if-b-gt57.false c.if-k-eq18.true

pub returns-then-not-may_follow : goal.returns-then-not-may_follow
returns-then-not-may_follow c = reads-spare c.args.k c.args.n c.args.b c.if-b-lt48.false c.if-b-gt57.false c.requires.0 c.if-k-eq18.false (sym c.may_follow.ensures ∙ c.if-not-may_follow.true)

pub overflow_mul-result : goal.overflow_mul-result
overflow_mul-result c = omega (arith, room_for c.args.k c.args.n c.args.b c.if-b-lt48.false c.if-b-gt57.false c.requires.0 c.if-k-eq18.false c.requires.1)

pub overflow_add-result-2 : goal.overflow_add-result-2
overflow_add-result-2 c = omega (arith, room_for c.args.k c.args.n c.args.b c.if-b-lt48.false c.if-b-gt57.false c.requires.0 c.if-k-eq18.false c.requires.1, c.if-b-gt57.false, c.from.ensures)

pub returns : goal.returns
returns c = reads-digit c.args.k c.args.n c.args.b c.if-b-lt48.false c.if-b-gt57.false c.requires.0 c.if-k-eq18.false c.requires.1 _ (ap (λ (x : ℕ). c.args.n * 10 + x) c.from.ensures) (sym c.may_follow.ensures ∙ c.if-not-may_follow.false)
