-- `layout::layout_few` meets its contract.
use native.Mathlib.Omega.{arith}
use Rattle.layout.proofs.Few.{few-refused, few-answer, few-written}
use Rattle.layout.proofs.Stops.{hands_on}
use Rattle.layout.proofs.layout_few.Goals as goal

pub returns-in_err-l-clause-answer : goal.returns-in_err-l-clause-answer
returns-in_err-l-clause-answer c = rw (hands_on _ _ c.from_residual.ensures.1) (few-refused c.args.table.now _ _ _ _ _ _ c.layout_listed.ensures _ c.in_err-l.was _)

pub returns : goal.returns
returns c = record {
  answer = few-answer c.args.table.now _ _ _ _ _ _ c.layout_listed.ensures _ c.in_ok-l.was _ c.requires.1;
  written = few-written c.args.table.now _ _ _ _ _ _ c.layout_listed.ensures _ c.in_ok-l.was (omega (arith, c.requires.2)) _ _ c.copy.ensures;
}
