use mathlib.Core.Path.{◌∙◌}
use Rattle.layout.proofs.DimLaws.{dims-short, dims-dir, dims-len, dims-product, dims-more, dims-end}
use Rattle.layout.proofs.Stops.{stops}
use Rattle.layout.proofs.dims_count.Goals as goal

pub returns-then-rest-lt24 : goal.returns-then-rest-lt24
returns-then-rest-lt24 c = dims-short _ _ _ _ c.loop-k-test.true c.if-rest-lt24.true ∙ c.loop-k.invariant

pub returns-then-dir-gt1 : goal.returns-then-dir-gt1
returns-then-dir-gt1 c = dims-dir _ c.args.dims _ _ c.loop-k-test.true c.if-rest-lt24.false (rw c.get_le-dir.ensures at c.if-dir-gt1.true) ∙ c.loop-k.invariant

pub returns-in_err-l : goal.returns-in_err-l
returns-in_err-l c = stops _ _ _ _ c.in_err-l.ensures.value c.from_residual.ensures.1 ∙ dims-len _ c.args.dims _ _ c.loop-k-test.true c.if-rest-lt24.false (rw c.get_le-dir.ensures at c.if-dir-gt1.false) _ (rw (c.get_le-left.ensures, c.get_le-right.ensures, c.get_le-dir.ensures) at c.dim_len.ensures) c.in_err-l.ensures.ok_part ∙ c.loop-k.invariant

pub returns-in_err-n : goal.returns-in_err-n
returns-in_err-n c = stops _ _ _ _ c.in_err-n.ensures.value c.from_residual-in_err-n.ensures.1 ∙ dims-product _ c.args.dims _ _ c.loop-k-test.true c.if-rest-lt24.false (rw c.get_le-dir.ensures at c.if-dir-gt1.false) _ (rw (c.get_le-left.ensures, c.get_le-right.ensures, c.get_le-dir.ensures) at c.dim_len.ensures) _ c.in_ok-l.ensures.ok_part _ c.product.ensures c.in_err-n.ensures.ok_part ∙ c.loop-k.invariant

pub loop-k-preserved : goal.loop-k-preserved
loop-k-preserved c = dims-more _ c.args.dims _ _ c.loop-k-test.true c.if-rest-lt24.false (rw c.get_le-dir.ensures at c.if-dir-gt1.false) _ (rw (c.get_le-left.ensures, c.get_le-right.ensures, c.get_le-dir.ensures) at c.dim_len.ensures) _ c.in_ok-l.ensures.ok_part _ c.product.ensures _ c.in_ok-n.ensures.ok_part ∙ c.loop-k.invariant

pub returns : goal.returns
returns c = dims-end _ _ _ _ c.loop-k-test.false ∙ c.loop-k.invariant
