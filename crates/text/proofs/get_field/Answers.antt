use mathlib.Core.Path.{sym, ◌∙◌}
use borrow.Author.Tests.{ltb-false}
use Rattle.text.proofs.Getting.{byte-read, field-none, answer-none, decimal-found, field-short, field-there, field-other}
use Rattle.text.specs.Reading.{read_decimal}
use lib.ListN.{drop}
use Rattle.text.proofs.get_field.Goals as goal

pub returns-in_err-n : goal.returns-in_err-n
returns-in_err-n c = c.from_residual.ensures ∙ field-none c.args.s.now c.args.most c.args.end c.args.at (answer-none c.args.s.now (read_decimal c.args.most (drop c.args.at c.args.s.now)) c.get_decimal.ensures c.in_err-n.was)

pub returns-in_err-get : goal.returns-in_err-get
returns-in_err-get c =
    let d = decimal-found c.args.s.now c.args.most c.args.at c.in_ok-n.n c.in_ok-n.next c.get_decimal.ensures c.in_ok-n.was in
    c.from_residual-in_err-get.ensures ∙ field-short c.args.s.now c.args.most c.args.end c.args.at c.in_ok-n.n c.in_ok-n.next d.0 (ltb-false _ _ (sym c.in_err-get.ensures.lookup.0))

pub returns-then-branch-end : goal.returns-then-branch-end
returns-then-branch-end c =
    let d = decimal-found c.args.s.now c.args.most c.args.at c.in_ok-n.n c.in_ok-n.next c.get_decimal.ensures c.in_ok-n.was in
    let b = byte-read _ _ _ c.in_ok-get.ensures.lookup.0 c.in_ok-get.ensures.lookup.1 in
    field-there c.args.s.now c.args.most c.args.end c.args.at c.in_ok-n.n c.in_ok-n.next d.0 b.0 (sym b.1 ∙ c.if-branch-end.true)

pub returns-else-branch-end : goal.returns-else-branch-end
returns-else-branch-end c =
    let d = decimal-found c.args.s.now c.args.most c.args.at c.in_ok-n.n c.in_ok-n.next c.get_decimal.ensures c.in_ok-n.was in
    let b = byte-read _ _ _ c.in_ok-get.ensures.lookup.0 c.in_ok-get.ensures.lookup.1 in
    field-other c.args.s.now c.args.most c.args.end c.args.at c.in_ok-n.n c.in_ok-n.next d.0 b.0 (λ e. c.if-branch-end.false (b.1 ∙ e))
