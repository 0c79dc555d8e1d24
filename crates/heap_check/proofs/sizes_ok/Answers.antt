-- `heap_check::sizes_ok` meets its contract: each test refuses what one field asks.
use Rattle.heap_check.proofs.CheckLoops.{says-no}
use Rattle.heap_check.proofs.sizes_ok.Goals as goal

pub returns-then-narrow-all : goal.returns-then-narrow-all
returns-then-narrow-all c = says-no (λ x. c.if-narrow-all.true x.narrow)

pub returns-then-wide-all : goal.returns-then-wide-all
returns-then-wide-all c = says-no (λ x. c.if-wide-all.true x.wide)
