use native.Mathlib.Omega.{arith}
use Rattle.shelves.proofs.Telling.{written-on, ends-near, ends-cut, ends_last}
use Rattle.shelves.proofs.reading.Reading.finish.Goals.{then-is_cut_off, else-is_cut_off}
use Rattle.shelves.proofs.reading.Reading.finish.Goals as goal

pub returns : goal.returns
returns c =
    elim c.if-is_cut_off.branch [
      | then-is_cut_off w ↦
          let last = written-on w.page-is c.put_line-2.ensures.wrote in
          ends-cut c.args.self.now.shelf c.args.failed c.args.self.now.good c.is_cut_off.ensures _ _ w.if-is_cut_off.true w.none.ensures w.put_line.ensures.wrote.puts last.puts
          (ends-near w.page-is c.put_line-2.ensures.upper_bound.0 w.put_line.ensures.upper_bound.0)
      | else-is_cut_off w ↦
          let last = written-on w.page-is c.put_line-2.ensures.wrote in
          ends_last c.args.self.now.shelf c.args.failed c.args.self.now.good c.is_cut_off.ensures _ w.if-is_cut_off.false last.puts (ends-near w.page-is c.put_line-2.ensures.upper_bound.0 (omega arith))
    ]
