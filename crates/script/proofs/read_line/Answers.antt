-- `script::read_line` meets its contract.
use Rattle.std.specs.Prelude.{Some, None}
use Rattle.script.specs.declared.Line.TheVariants.{Alloc}
use Rattle.script.proofs.Finding.{alloc-lost, alloc-line, by-alloc, by-take, seal-read, recycle-read, no_name}
use Rattle.script.proofs.read_line.Goals as goal

pub returns-in_err-line : goal.returns-in_err-line
returns-in_err-line c =
    rw c.from_residual.ensures (by-alloc c.args.s.now c.args.at c.expect.result c.expect.ensures c.in-Some.a c.in-Some.is None (alloc-lost _ c.in_err-line.ensures))

pub returns-in-Some : goal.returns-in-Some
returns-in-Some c =
    by-alloc c.args.s.now c.args.at c.expect.result c.expect.ensures c.in-Some.a c.in-Some.is (Some (Alloc c.in_ok-line.line, c.in_ok-line.next)) (alloc-line _ _ _ _ c.in_ok-line.ensures)

pub returns-in-Some-expect : goal.returns-in-Some-expect
returns-in-Some-expect c =
    by-take c.args.s.now c.args.at c.expect.result c.expect.ensures c.in_default.is c.expect-2.result c.expect-2.ensures
    c.in-Some-expect.a c.in-Some-expect.is c.read_take.result c.read_take.ensures

pub returns-in-Some-expect-2 : goal.returns-in-Some-expect-2
returns-in-Some-expect-2 c =
    seal-read c.args.s.now c.args.at c.expect.result c.expect.ensures c.in_default.is c.expect-2.result c.expect-2.ensures c.in_default-expect.is c.expect-3.result c.expect-3.ensures
    c.in-Some-expect-2.next c.in-Some-expect-2.is

pub returns-in_err-next : goal.returns-in_err-next
returns-in_err-next c =
    rw c.from_residual-in_err-next.ensures
    (no_name c.args.s.now c.args.at c.expect.result c.expect.ensures c.in_default.is c.expect-2.result c.expect-2.ensures c.in_default-expect.is c.expect-3.result c.expect-3.ensures
    c.in_default-expect-2.is c.expect-4.result c.expect-4.ensures c.in_err-next.was)

pub returns : goal.returns
returns c =
    recycle-read c.args.s.now c.args.at c.expect.result c.expect.ensures c.in_default.is c.expect-2.result c.expect-2.ensures c.in_default-expect.is c.expect-3.result c.expect-3.ensures
    c.in_default-expect-2.is c.expect-4.result c.expect-4.ensures c.in_ok-next.next c.in_ok-next.was
