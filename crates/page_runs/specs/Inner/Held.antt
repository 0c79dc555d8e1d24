-- The heap of a run, in the memory that the run owns.
use Rattle.heap.specs.Lent.{Lent, lent}
use Rattle.page_runs.specs.declared.running.Running.{Running}

abbrev pub lies : Running → Lent
lies r = lent r.run.heap r.narrow r.wide r.pool
