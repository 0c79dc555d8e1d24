use Rattle.text.proofs.Getting.{step-at, found, past, stops_end}
use native.Mathlib.Omega.{arith}
use lib.ListN.{length, drop}
use Prim.Native.Nat.{◌+◌, ◌*◌}
use mathlib.Core.Path.{◌≡◌, sym, ap, ◌∙◌}
use Rattle.text.specs.Reading.{scan}
use Rattle.text.proofs.get_more.Goals as goal

pub returns-in_err-checked_mul : goal.returns-in_err-checked_mul
returns-in_err-checked_mul c =
    c.from_residual.ensures
    ∙ past c.args.s.now c.args.most (c.loop-i.n * 10 + c.in-Some.d) (drop (c.loop-i.i + 1) c.args.s.now) _
    (omega (arith, c.in_err-checked_mul.ensures)) (c.loop-i.invariant.2 ∙ step-at c.loop-i.n c.in-Some.ensures)

pub returns-in_err-n : goal.returns-in_err-n
returns-in_err-n c =
    c.from_residual-in_err-n.ensures
    ∙ past c.args.s.now c.args.most (c.loop-i.n * 10 + c.in-Some.d) (drop (c.loop-i.i + 1) c.args.s.now) _
    (omega (arith, c.in_err-n.ensures, c.in_ok-checked_mul.ensures.1)) (c.loop-i.invariant.2 ∙ step-at c.loop-i.n c.in-Some.ensures)

pub returns-then-most-n : goal.returns-then-most-n
returns-then-most-n c =
    past c.args.s.now c.args.most (c.loop-i.n * 10 + c.in-Some.d) (drop (c.loop-i.i + 1) c.args.s.now) _
    (omega (arith, c.if-most-n.true, c.in_ok-n.ensures.1, c.in_ok-checked_mul.ensures.1)) (c.loop-i.invariant.2 ∙ step-at c.loop-i.n c.in-Some.ensures)

pub loop-i-preserved : goal.loop-i-preserved
loop-i-preserved c = (
  omega arith,
  omega (arith, c.in-Some.ensures.inside),
  c.loop-i.invariant.2 ∙ step-at c.loop-i.n c.in-Some.ensures ∙ ap (λ n. scan n (drop (c.loop-i.i + 1) c.args.s.now)) (sym (c.in_ok-n.ensures.1 ∙ ap (λ n. n + c.in-Some.d) c.in_ok-checked_mul.ensures.1)),
)

pub returns-in_default : goal.returns-in_default
returns-in_default c = found c.args.s.now c.args.most c.loop-i.i c.loop-i.n _ c.loop-i.invariant.0 (omega (arith, c.loop-i-test.true)) c.loop-i.invariant.2 c.in_default.ensures

pub returns : goal.returns
returns c =
    let e : c.loop-i.i ≡ length c.args.s.now = omega (arith, c.loop-i-test.false, c.loop-i.invariant.1) in
    found c.args.s.now c.args.most (length c.args.s.now) c.loop-i.n _ c.loop-i.invariant.0 (omega arith) (c.loop-i.invariant.2 ∙ ap (λ i. scan c.loop-i.n (drop i c.args.s.now)) e) (stops_end c.args.s.now (length c.args.s.now) (omega arith))
