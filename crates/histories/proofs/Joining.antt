-- Where the chains of a joined collection start. Assumes nothing.
use Rattle.word.proofs.Bools.{and_both}
use Rattle.heap.specs.Lent.{view}
use Rattle.flow.proofs.Validity.{parts-valid}
use Rattle.code.specs.Lent.{function}
use Rattle.code.proofs.Forms.{formed-parts}
use Rattle.collection.proofs.Registers.{joined-starts}
use Rattle.door.proofs.Entering.{all_hold}
use Rattle.collect_door.specs.Calls.{pinning, coded, joined_tests}
use Rattle.histories.specs.Promises.{JoinedChains}

pub joined-chains : JoinedChains
unfolding coded
joined-chains s a l handles i =
    joined-starts (function a.code) a.pc
    (parts-valid (function a.code) (formed-parts (and_both _ _ (all_hold (joined_tests a s.marks s.work s.rows l) 3 i)).0).valid)
    (all_hold (joined_tests a s.marks s.work s.rows l) 6 i)
    a.values (pinning a)
    (all_hold (joined_tests a s.marks s.work s.rows l) 5 i)
    handles (view l)
