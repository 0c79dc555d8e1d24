use Rattle.page_check.proofs.Rules.{dead-free, dead-quarantine, dead-retired}
use Rattle.page_check.proofs.page.Page.mark_dead.Goals as goal

pub returns-then-not-mark : goal.returns-then-not-mark
returns-then-not-mark c = dead-free c.args.self.text.now c.args.self.sections c.args.self.sectioned c.args.base c.args.m c.mark.ensures c.if-not-mark.true

pub returns-then-not-mark-2 : goal.returns-then-not-mark-2
returns-then-not-mark-2 c = dead-quarantine c.args.self.text.now c.args.self.sections c.args.self.sectioned c.args.base c.args.m c.mark.ensures c.if-not-mark.false c.mark-2.ensures c.if-not-mark-2.true

pub returns : goal.returns
returns c = dead-retired c.args.self.text.now c.args.self.sections c.args.self.sectioned c.args.base c.args.m c.mark.ensures c.if-not-mark.false c.mark-2.ensures c.if-not-mark-2.false c.mark-3.ensures
