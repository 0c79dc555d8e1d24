use lib.ListN.{drop}
use native.Mathlib.Omega.{arith}
use Rattle.tables.specs.Reading.{read_name}
use Rattle.tables.proofs.Naming.{name-found}
use Rattle.tables.proofs.Endings.{gather-begin, gather-next, gather-lost, gather-done, got-there, got-missing, lost}
use Rattle.tables.proofs.skip_names.Goals as goal

pub loop-init : goal.loop-init
loop-init c = gather-begin read_name c.args.s.now c.args.at c.args.count (λ _. Unit) c.requires tt

pub returns-in_err-k : goal.returns-in_err-k
returns-in_err-k c = rw c.from_residual.ensures (got-missing (λ _. Unit) (gather-lost read_name c.args.s.now c.args.at c.args.count c.loop.k c.loop.counter c.loop.invariant c.loop-test.true (lost c.args.s.now (read_name (drop c.loop.k c.args.s.now)) c.get_name.ensures c.in_err-k.was)))

pub loop-preserved : goal.loop-preserved
loop-preserved c = let f = name-found c.args.s.now c.loop.k c.in_ok-k.k c.get_name.ensures c.in_ok-k.was in gather-next read_name c.args.s.now c.args.at c.args.count c.loop.k c.loop.counter c.loop.invariant (λ _. Unit) f.name c.in_ok-k.k c.loop-test.true f.reads f.inside tt

pub returns : goal.returns
returns c = got-there (gather-done read_name c.args.s.now c.args.at c.args.count c.loop.k c.loop.counter c.loop.invariant (omega arith))
