use native.Mathlib.Omega.{arith}
use mathlib.Core.Path.{refl}
use Rattle.page_runs.proofs.Scripted.{ran-is, ran-refused, ran-done, still-good}
use Rattle.page_runs.proofs.running.Running.run_part.Goals as goal

pub invariant_of-self : goal.invariant_of-self
invariant_of-self c = record { good = still-good (ran-is _ c.args.self.now.good.heap c.args.self.now.room c.args.self.now.marks c.args.self.now.work c.args.script.now (omega arith) (omega arith) (omega arith) _ _ _ c.yexwalu_run-done.ensures) refl refl c.args.self.now.good }

pub returns-then-number-ne0 : goal.returns-then-number-ne0
returns-then-number-ne0 c = ran-refused (ran-is _ c.args.self.now.good.heap c.args.self.now.room c.args.self.now.marks c.args.self.now.work c.args.script.now (omega arith) (omega arith) (omega arith) _ _ _ c.yexwalu_run-done.ensures) refl refl c.if-number-ne0.true

pub returns : goal.returns
returns c = ran-done (ran-is _ c.args.self.now.good.heap c.args.self.now.room c.args.self.now.marks c.args.self.now.work c.args.script.now (omega arith) (omega arith) (omega arith) _ _ _ c.yexwalu_run-done.ensures) refl refl c.if-number-ne0.false
