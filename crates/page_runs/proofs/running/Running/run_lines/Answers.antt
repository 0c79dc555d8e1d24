use native.Mathlib.Omega.{arith}
use Rattle.page_runs.proofs.Holding.{lines-inside, lines-open, lines-refused, lines-bad, lines-held}
use Rattle.page_runs.proofs.running.Running.run_lines.Goals as goal

pub returns-in-Err : goal.returns-in-Err
returns-in-Err c = lines-refused c.args.buf.now _ _ _ (omega arith) c.requires.0 c.requires.1 c.whole.ensures c.run_part.new.self.narrow c.run_part.new.self.wide c.run_part.new.self.pool c.run_part.ensures c.in-Err.number _ c.in-Err.is c.over-self.ensures

pub keep-requires : goal.keep-requires
keep-requires c = (lines-inside c.args.buf.now _ _ _ (omega arith) c.requires.0 c.requires.1 c.whole.ensures, c.requires.1, lines-open c.args.buf.now _ _ _ (omega arith) c.requires.0 c.requires.1 c.whole.ensures)

pub returns-in_default-keep : goal.returns-in_default-keep
returns-in_default-keep c = lines-bad c.args.buf.now _ _ _ (omega arith) c.requires.0 c.requires.1 c.whole.ensures c.run_part.new.self.narrow c.run_part.new.self.wide c.run_part.new.self.pool c.run_part.ensures c.in_default.is c.keep.new.buf _ c.in_default-keep.ensures c.over-self-in_default-keep.ensures

pub returns : goal.returns
returns c = lines-held c.args.buf.now _ _ _ (omega arith) c.requires.0 c.requires.1 c.whole.ensures c.run_part.new.self.narrow c.run_part.new.self.wide c.run_part.new.self.pool c.run_part.ensures c.in_default.is c.keep.new.buf c.in-Some.held c.in-Some.ensures
