-- `layout::dim_len` meets its contract.
use borrow.Author.Tests.{eq-eqb, ne_eqb}
use Rattle.layout.specs.Layout.{dim_len}
use Rattle.layout.proofs.dim_len.Goals as goal

pub returns-then-dir-eq1 : goal.returns-then-dir-eq1
unfolding dim_len
returns-then-dir-eq1 c = rw (eq-eqb _ _ c.if-dir-eq1.true, ← c.rank_of-r.ensures, ← c.rank_of-l.ensures) c.span.ensures

pub returns-else-dir-eq1 : goal.returns-else-dir-eq1
unfolding dim_len
returns-else-dir-eq1 c = rw (ne_eqb _ _ c.if-dir-eq1.false, ← c.rank_of-r.ensures, ← c.rank_of-l.ensures) c.span-else-dir-eq1.ensures
