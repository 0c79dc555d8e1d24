-- `script::read_take` meets its contract.
use Rattle.script.proofs.Finding.{no-handle, handle-inside, no-zeros, take-read}
use Rattle.script.proofs.read_take.Goals as goal

pub expect-requires : goal.expect-requires
expect-requires c = handle-inside c.args.s.now c.args.at c.get_field.result c.get_field.ensures c.in_ok-handle.handle c.in_ok-handle.a c.in_ok-handle.was

pub returns-in_err-handle : goal.returns-in_err-handle
returns-in_err-handle c = rw c.from_residual.ensures (no-handle c.args.s.now c.args.at c.get_field.result c.get_field.ensures c.in_err-handle.was)

pub returns-in_err-next : goal.returns-in_err-next
returns-in_err-next c =
    rw c.from_residual-in_err-next.ensures
    (no-zeros c.args.s.now c.args.at c.get_field.result c.get_field.ensures c.in_ok-handle.handle c.in_ok-handle.a c.in_ok-handle.was c.expect.result c.expect.ensures c.in_err-next.was)

pub returns : goal.returns
returns c =
    take-read c.args.s.now c.args.at c.get_field.result c.get_field.ensures c.in_ok-handle.handle c.in_ok-handle.a c.in_ok-handle.was c.expect.result c.expect.ensures
    c.in_ok-next.next c.in_ok-next.was
