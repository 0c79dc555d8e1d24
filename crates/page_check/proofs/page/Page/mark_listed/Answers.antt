use Rattle.page_check.proofs.Rules.{listed-once, listed-young, listed-worn}
use Rattle.page_check.proofs.page.Page.mark_listed.Goals as goal

pub returns-in-Once : goal.returns-in-Once
returns-in-Once c = listed-once c.args.self.text.now c.args.self.sections c.args.self.sectioned c.args.base c.args.m c.in-Once.is c.mark_dead.ensures

pub returns-in-Young : goal.returns-in-Young
returns-in-Young c = listed-young c.args.self.text.now c.args.self.sections c.args.self.sectioned c.args.base c.args.m c.in-Young.is c.mark.ensures

pub returns-in-Worn : goal.returns-in-Worn
returns-in-Worn c = listed-worn c.args.self.text.now c.args.self.sections c.args.self.sectioned c.args.base c.args.m c.in-Worn.is c.mark-in-Worn.ensures
