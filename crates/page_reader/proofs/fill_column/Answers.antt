use Rattle.text.specs.Inner.Answer.{hex_at}
use Rattle.page_reader.proofs.Restoring.{lent-column, column-start, column-end, puts-restored, puts_plain}
use Rattle.page_reader.proofs.fill_column.Goals as goal

pub returns-then-not-planar : goal.returns-then-not-planar
returns-then-not-planar c = puts_plain (hex_at c.args.hex.text.now c.args.hex.at) c.args.hex.count c.copy-end.ensures c.args.hex.spelled.1 c.requires c.args.planar c.if-not-planar.true

pub slice_bounds-restore-count : goal.slice_bounds-restore-count
slice_bounds-restore-count c = column-start (hex_at c.args.hex.text.now c.args.hex.at) c.args.hex.count c.copy-end.ensures c.args.hex.spelled.1 c.requires

pub slice_bounds-restore-start : goal.slice_bounds-restore-start
slice_bounds-restore-start c = column-start (hex_at c.args.hex.text.now c.args.hex.at) c.args.hex.count c.copy-end.ensures c.args.hex.spelled.1 c.requires

pub slice_bounds-restore-end : goal.slice_bounds-restore-end
slice_bounds-restore-end c = column-end (hex_at c.args.hex.text.now c.args.hex.at) c.args.hex.count c.copy-end.ensures c.args.hex.spelled.1 c.requires

pub restore-requires : goal.restore-requires
restore-requires c = lent-column (hex_at c.args.hex.text.now c.args.hex.at) c.args.hex.count c.copy-end.ensures c.args.hex.spelled.1 c.requires

pub returns : goal.returns
returns c = puts-restored (hex_at c.args.hex.text.now c.args.hex.at) c.args.hex.count c.copy-end.ensures c.args.hex.spelled.1 c.requires c.args.planar _ c.if-not-planar.false c.restore.ensures
