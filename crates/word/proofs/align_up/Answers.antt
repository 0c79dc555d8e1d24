use Rattle.word.proofs.NumLaws.{align_same, align-next, aligned-to, aligned-sum}
use Rattle.word.proofs.align_up.Goals as goal

pub returns-then-rest-eq0 : goal.returns-then-rest-eq0
returns-then-rest-eq0 c = aligned-to 64 _ _ _ (align_same _ _ c.requires c.if-rest-eq0.true) c.ranges.x.fits

pub returns : goal.returns
returns c = aligned-sum 64 _ _ _ _ (align-next _ _ c.requires c.if-rest-eq0.false) c.checked_add.ensures
