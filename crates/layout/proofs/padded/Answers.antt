-- `layout::padded` meets its contract: so small a sum never passes 64 bits.
use Rattle.layout.proofs.ScalarLaws.{padded-is, padded_some}
use Rattle.layout.proofs.padded.Goals as goal

pub unwrap-requires : goal.unwrap-requires
unwrap-requires c = padded_some _ _ c.requires.0 c.requires.1 _ c.align_up.ensures

pub returns : goal.returns
returns c = padded-is _ _ c.requires.0 c.requires.1 _ c.align_up.ensures _ c.unwrap.ensures
