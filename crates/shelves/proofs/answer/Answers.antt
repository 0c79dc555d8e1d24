use native.Mathlib.Omega.{arith}
use Rattle.shelves.proofs.Telling.{answered}
use Rattle.shelves.proofs.answer.Goals as goal

pub returns : goal.returns
returns c =
    record {
      answers = answered c.args.shelf c.args.shown _ _ c.line_of-number.ensures _ _ _ _ _ (omega (arith, c.requires.room)) (omega (arith, c.put_line.ensures.upper_bound.0, c.requires.room)) c.put_line.ensures.wrote.puts c.after.ensures;
      same_page = record { loan = c.put_line.ensures.wrote.loan; size = c.put_line.ensures.upper_bound.1 };
    }
