use native.Mathlib.Omega.{arith}
use Rattle.page_runs.proofs.Holding.{keeps-short, all-open, keeps-full}
use Rattle.page_runs.proofs.keep.Goals as goal

pub returns-then-n-lt65536 : goal.returns-then-n-lt65536
returns-then-n-lt65536 c = keeps-short c.args.buf.now _ _ c.requires.0 c.requires.1 (omega arith) _ c.move_within.ensures c.if-n-lt65536.true

pub shorten-requires : goal.shorten-requires
shorten-requires c = all-open c.args.buf.now _ _ c.requires.0 c.requires.1 (omega arith) _ c.move_within.ensures c.if-n-lt65536.false c.requires.2

pub returns : goal.returns
returns c = keeps-full c.args.buf.now _ _ c.requires.0 c.requires.1 (omega arith) _ c.move_within.ensures c.if-n-lt65536.false _ _ c.shorten.ensures
