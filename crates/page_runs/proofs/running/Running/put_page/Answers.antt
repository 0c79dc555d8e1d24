use native.Mathlib.Omega.{arith}
use Rattle.page_runs.proofs.Telling.{page-put}
use Rattle.page_runs.proofs.running.Running.put_page.Goals as goal

pub returns : goal.returns
returns c = page-put _ c.args.self.now.good.heap c.words.ensures c.args.self.now.marks c.args.self.now.work c.args.out.now (omega arith) (omega arith) (omega arith) _ _ _ _ c.yexwalu_write_page-written.ensures.work_after c.yexwalu_write_page-written.ensures.out_after
