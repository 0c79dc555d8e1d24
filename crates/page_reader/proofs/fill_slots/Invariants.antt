use Rattle.page_reader.proofs.Numbers.{Filling}
use Rattle.page_reader.proofs.Pooling.{Pooling}
use Rattle.page_reader.proofs.fill_slots.Given as goal

abbrev pub invariant-loop-i : goal.invariant-loop-i
invariant-loop-i l = Filling l.fn.lines.text.now l.fn.lines.at l.fn.lines.count l.initial.narrow l.initial.wide l.narrow l.wide l.k l.from l.i
    × Pooling l.planar l.fn.lines.text.now l.fn.lines.at l.fn.lines.count l.initial.pool l.pool l.k l.to l.i
