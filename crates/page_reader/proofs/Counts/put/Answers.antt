use Rattle.page_reader.proofs.Counts.put.Goals as goal

pub returns-then-worn : goal.returns-then-worn
returns-then-worn c = record { free_count = simp c.if-worn.true; retired_count = simp c.if-worn.true; list = simp c.if-worn.true }

pub returns : goal.returns
returns c = record { free_count = simp c.if-worn.false; retired_count = simp c.if-worn.false; list = simp c.if-worn.false }
