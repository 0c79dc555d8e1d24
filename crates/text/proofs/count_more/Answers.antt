use Rattle.text.proofs.Getting.{byte-read, hex-ended, hex-line, hex-short, hex-first, hex-second, hex-next}
use native.Mathlib.Omega.{arith}
use borrow.Author.Tests.{ltb-false}
use mathlib.Core.Path.{sym, ◌∙◌}
use Rattle.text.proofs.count_more.Goals as goal
use Rattle.text.proofs.count_more.Goals.{then-not-is_hex_digit-via-then-not-is_hex_digit, then-not-is_hex_digit-via-else-not-is_hex_digit+then-not-is_hex_digit-2}

pub returns-in_err-a : goal.returns-in_err-a
returns-in_err-a c = c.from_residual.ensures ∙ hex-ended c.args.s.now c.loop-a.n c.loop-a.i (ltb-false _ _ (sym c.in_err-a.ensures.lookup.0)) ∙ sym c.loop-a.invariant.1

pub returns-then-a-eq10 : goal.returns-then-a-eq10
returns-then-a-eq10 c =
    let a = byte-read _ _ _ c.in_ok-a.ensures.lookup.0 c.in_ok-a.ensures.lookup.1 in
    hex-line c.args.s.now c.loop-a.n c.loop-a.i _ a.0 a.1 c.if-a-eq10.true ∙ sym c.loop-a.invariant.1

pub returns-in_err-b : goal.returns-in_err-b
returns-in_err-b c =
    let a = byte-read _ _ _ c.in_ok-a.ensures.lookup.0 c.in_ok-a.ensures.lookup.1 in
    c.from_residual-in_err-b.ensures
    ∙ hex-short c.args.s.now c.loop-a.n c.loop-a.i _ a.0 a.1 c.if-a-eq10.false (ltb-false _ _ (sym c.in_err-b.ensures.lookup.0)) ∙ sym c.loop-a.invariant.1

pub returns-then-not-is_hex_digit : goal.returns-then-not-is_hex_digit
returns-then-not-is_hex_digit c =
    let a = byte-read _ _ _ c.in_ok-a.ensures.lookup.0 c.in_ok-a.ensures.lookup.1 in
    let b = byte-read _ _ _ c.in_ok-b.ensures.lookup.0 c.in_ok-b.ensures.lookup.1 in
    elim c.then-not-is_hex_digit.branch [
      | then-not-is_hex_digit-via-then-not-is_hex_digit w ↦
          hex-first c.args.s.now c.loop-a.n c.loop-a.i _ a.0 a.1 c.if-a-eq10.false _ b.0 b.1 w.if-not-is_hex_digit.ensures ∙ sym c.loop-a.invariant.1
      | then-not-is_hex_digit-via-else-not-is_hex_digit+then-not-is_hex_digit-2 w ↦
          hex-second c.args.s.now c.loop-a.n c.loop-a.i _ a.0 a.1 c.if-a-eq10.false _ b.0 b.1 w.if-not-is_hex_digit.ensures w.if-not-is_hex_digit-2.ensures ∙ sym c.loop-a.invariant.1
    ]

pub loop-a-preserved : goal.loop-a-preserved
loop-a-preserved c =
    let a = byte-read _ _ _ c.in_ok-a.ensures.lookup.0 c.in_ok-a.ensures.lookup.1 in
    let b = byte-read _ _ _ c.in_ok-b.ensures.lookup.0 c.in_ok-b.ensures.lookup.1 in (
      omega arith,
      c.loop-a.invariant.1
          ∙ hex-next c.args.s.now c.loop-a.n c.loop-a.i _ a.0 a.1 c.if-a-eq10.false _ b.0 b.1 c.if-not-is_hex_digit.ensures c.if-not-is_hex_digit-2.ensures,
    )
