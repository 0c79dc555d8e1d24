use Rattle.text.proofs.Getting.{no-digit-there, spare-zero, no-spare, first-digit, too_large, is-some}
use Rattle.text.specs.Inner.Answer.{value_answer}
use Rattle.text.specs.Reading.{scan, capped, read_decimal}
use lib.ListN.{length, drop}
use mathlib.Core.Path.{◌≡◌, sym, ap, ◌∙◌}
use Prim.Native.Nat.{◌+◌}
use Rattle.text.proofs.get_decimal.Goals as goal
use Rattle.text.proofs.get_decimal.Goals.{else-first-eq0-via-then-first-eq0+else-is_some, else-first-eq0-via-else-first-eq0}

pub returns-in_err-first : goal.returns-in_err-first
returns-in_err-first c = c.from_residual.ensures ∙ no-digit-there c.args.s.now c.args.most c.args.at c.in_err-first.ensures

pub returns-then-is_some : goal.returns-then-is_some
returns-then-is_some c =
    spare-zero c.args.s.now c.args.most c.args.at c.in_ok-first.first c.in_ok-first.ensures c.if-first-eq0.true
    (is-some _ _ _ c.digit_at-then-first-eq0.ensures c.is_some.ensures c.if-is_some.true)

pub returns-then-most-first : goal.returns-then-most-first
returns-then-most-first c =
    let e : read_decimal c.args.most (drop c.args.at c.args.s.now) ≡ capped c.args.most (scan c.in_ok-first.first (drop (c.args.at + 1) c.args.s.now)) =
    elim c.else-first-eq0.branch [
      | else-first-eq0-via-then-first-eq0+else-is_some w ↦
          no-spare c.args.s.now c.args.most c.args.at c.in_ok-first.first c.in_ok-first.ensures w.if-first-eq0.true _ w.digit_at-then-first-eq0.ensures w.is_some.ensures w.if-is_some.false
      | else-first-eq0-via-else-first-eq0 w ↦ first-digit c.args.s.now c.args.most c.args.at c.in_ok-first.first w.if-first-eq0.false c.in_ok-first.ensures
    ] in
    too_large c.args.s.now c.args.most c.in_ok-first.first _ c.if-most-first.true e

pub returns : goal.returns
returns c =
    let e : read_decimal c.args.most (drop c.args.at c.args.s.now) ≡ capped c.args.most (scan c.in_ok-first.first (drop (c.args.at + 1) c.args.s.now)) =
    elim c.else-first-eq0.branch [
      | else-first-eq0-via-then-first-eq0+else-is_some w ↦
          no-spare c.args.s.now c.args.most c.args.at c.in_ok-first.first c.in_ok-first.ensures w.if-first-eq0.true _ w.digit_at-then-first-eq0.ensures w.is_some.ensures w.if-is_some.false
      | else-first-eq0-via-else-first-eq0 w ↦ first-digit c.args.s.now c.args.most c.args.at c.in_ok-first.first w.if-first-eq0.false c.in_ok-first.ensures
    ] in
    c.get_more.ensures ∙ ap (value_answer (length c.args.s.now)) (sym e)
