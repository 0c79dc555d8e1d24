use Rattle.page_runs.proofs.Telling.{ends-over, ends-names, ends-refused, ends-failed, ends-page}
use Rattle.page_runs.proofs.running.Running.finish.Goals as goal

pub returns-in-Err : goal.returns-in-Err
returns-in-Err c = ends-refused c.args.buf.now c.run_part.ensures c.args.failed c.in-Lines.is c.in-Err.number c.in-Err.is c.put_number-in-Err.ensures

pub returns-then-failed : goal.returns-then-failed
returns-then-failed c = ends-failed c.args.buf.now c.run_part.ensures c.args.failed c.in-Lines.is c.in_default.is c.if-failed.true c.put_number-then-failed.ensures

pub returns-in-Over : goal.returns-in-Over
returns-in-Over c = ends-over _ _ _ _ _ c.in-Over.is c.put_number.ensures

pub returns-in-Names : goal.returns-in-Names
returns-in-Names c = ends-names _ _ _ _ _ c.in-Names.is c.args.self.now.good.short c.put_number-in-Names.ensures

pub returns-else-failed : goal.returns-else-failed
returns-else-failed c = ends-page c.args.buf.now c.run_part.ensures c.args.failed c.in-Lines.is c.in_default.is c.if-failed.false c.put_page.ensures
