-- `shelves::take_page` meets its contract.
use native.Mathlib.Omega.{arith}
use mathlib.Core.Path.{sym}
use lib.Seq.{length-take-le}
use Rattle.shelves.proofs.Taking.{takes-page, takes_whole}
use Rattle.shelves.proofs.take_page.Goals as goal

pub slice_bounds-copy-end-2 : goal.slice_bounds-copy-end-2
slice_bounds-copy-end-2 c = sym (length-take-le _ _ (omega (arith, c.min-used.ensures)))

pub copy-requires : goal.copy-requires
copy-requires c = omega (arith, c.min-used.ensures, c.requires.0, c.requires.1, c.copy-arg-1.given.0.1, length-take-le c.min-used.result c.args.input.now (omega (arith, c.min-used.ensures)))

pub returns-then-now-n : goal.returns-then-now-n
returns-then-now-n c = takes-page c.args.n c.args.have c.args.held.now c.args.input.now _ c.min-used.result c.min-used.ensures c.requires c.copy-arg-1.given.0.1 c.copy.ensures c.if-now-n.true

pub returns : goal.returns
returns c = takes_whole c.args.n c.args.have c.args.held.now c.args.input.now _ c.min-used.result c.min-used.ensures c.requires c.copy-arg-1.given.0.1 c.copy.ensures c.if-now-n.false
