use native.Mathlib.Omega.{arith}
use mathlib.Core.Path.{sym, ◌∙◌}
use Rattle.page_runs.proofs.Starting.{way-over, way-unnamed, way-named}
use Rattle.page_runs.proofs.running.Running.go_on.Goals as goal

pub returns-then-not-named : goal.returns-then-not-named
returns-then-not-named c = way-unnamed c.args.buf.now c.args.n c.args.self.now.run _ c.args.self.now.narrow c.args.self.now.wide c.args.self.now.pool c.args.self.now.good.heap c.if-n-lt23.false c.requires (omega arith) c.in-Names.is (sym c.named.ensures ∙ c.if-not-named.true) c.over-self-then-not-named.ensures

pub returns-in-Over : goal.returns-in-Over
returns-in-Over c = way-over c.args.buf.now c.args.n c.args.self.now.run _ c.args.self.now.narrow c.args.self.now.wide c.args.self.now.pool c.args.self.now.good.heap _ c.in-Over.is c.over-self.ensures

pub returns-else-not-named : goal.returns-else-not-named
returns-else-not-named c = way-named c.args.buf.now c.args.n c.if-n-lt23.false c.requires (omega arith) c.in-Names.is (sym c.named.ensures ∙ c.if-not-named.false) c.run_lines-in-Names.ensures
