-- `script::read_alloc` meets its contract.
use Rattle.script.proofs.Finding.{no-type, no_kind, no-data, alloc-read}
use Rattle.script.proofs.read_alloc.Goals as goal

pub returns-in_err-ty : goal.returns-in_err-ty
returns-in_err-ty c = rw c.from_residual.ensures (no-type c.args.s.now c.args.at c.get_field.result c.get_field.ensures c.in_err-ty.was)

pub returns-in_err-kind : goal.returns-in_err-kind
returns-in_err-kind c =
    rw c.from_residual-in_err-kind.ensures
    (no_kind c.args.s.now c.args.at c.get_field.result c.get_field.ensures c.in_ok-ty.ty c.in_ok-ty.a c.in_ok-ty.was c.get_field-2.result c.get_field-2.ensures c.in_err-kind.was)

pub returns-in_err-count : goal.returns-in_err-count
returns-in_err-count c =
    rw c.from_residual-in_err-count.ensures
    (no-data c.args.s.now c.args.at c.get_field.result c.get_field.ensures c.in_ok-ty.ty c.in_ok-ty.a c.in_ok-ty.was c.get_field-2.result c.get_field-2.ensures
    c.in_ok-kind.kind c.in_ok-kind.from c.in_ok-kind.was c.count_hex.result c.count_hex.ensures c.in_err-count.was)

pub returns : goal.returns
returns c =
    alloc-read c.args.s.now c.args.at c.get_field.result c.get_field.ensures c.in_ok-ty.ty c.in_ok-ty.a c.in_ok-ty.was c.get_field-2.result c.get_field-2.ensures
    c.in_ok-kind.kind c.in_ok-kind.from c.in_ok-kind.was c.count_hex.result c.count_hex.ensures c.in_ok-count.count c.in_ok-count.next c.in_ok-count.was
