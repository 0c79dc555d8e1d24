use mathlib.Core.Path.{sym, ap, ◌∙◌}
use mathlib.Core.Option.{some}
use native.Mathlib.Omega.{arith}
use borrow.Author.Tests.{ltb-false}
use Rattle.text.specs.Reading.{digit_of}
use Rattle.text.proofs.Getting.{stops_end, stops-low, stops-high, mid, byte-read}
use Rattle.text.proofs.digit_at.Goals as goal

pub returns-in_err-b : goal.returns-in_err-b
returns-in_err-b c = rw c.from_residual.ensures (stops_end c.args.s.now c.args.at (ltb-false _ _ (sym c.in_err-b.ensures.lookup.0)))

pub returns-in-48-to-57 : goal.returns-in-48-to-57
returns-in-48-to-57 c =
    let r = byte-read _ _ _ c.in_ok-b.ensures.lookup.0 c.in_ok-b.ensures.lookup.1 in
    record { inside = r.0; digit = ap digit_of (sym r.1) ∙ mid c.in_ok-b.field-0.now (omega arith) (omega arith) ∙ ap some (sym c.from.ensures) }

pub returns-in_default : goal.returns-in_default
returns-in_default c = let r = byte-read _ _ _ c.in_ok-b.ensures.lookup.0 c.in_ok-b.ensures.lookup.1 in stops-low c.args.s.now c.args.at _ r.0 r.1 (omega arith)

pub returns-in_default-2 : goal.returns-in_default-2
returns-in_default-2 c = let r = byte-read _ _ _ c.in_ok-b.ensures.lookup.0 c.in_ok-b.ensures.lookup.1 in stops-high c.args.s.now c.args.at _ r.0 r.1 (omega arith)
