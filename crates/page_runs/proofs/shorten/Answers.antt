use native.Mathlib.Omega.{arith}
use mathlib.Core.Path.{refl}
use Rattle.page_runs.proofs.Heading.{short-none, short-bad, shortened}
use Rattle.page_runs.proofs.shorten.Goals as goal

pub returns-in_err-from : goal.returns-in_err-from
returns-in_err-from c = short-none c.args.buf.now c.requires (omega arith) c.from_residual.ensures c.in_err-from.ensures

pub returns-then-not-all_hex : goal.returns-then-not-all_hex
returns-then-not-all_hex c = short-bad c.args.buf.now c.requires (omega arith) _ c.in_ok-from.ensures _ c.all_hex.ensures c.if-not-all_hex.true

pub returns : goal.returns
returns c = shortened c.args.buf.now c.requires (omega arith) _ c.in_ok-from.ensures _ c.all_hex.ensures c.if-not-all_hex.false _ refl _ c.move_within.ensures
