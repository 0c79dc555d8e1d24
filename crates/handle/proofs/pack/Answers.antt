use Rattle.handle.proofs.Fields.{joined}
use Rattle.handle.proofs.pack.Goals as goal

pub returns : goal.returns
returns c = joined c.args.tag c.args.index c.args.generation c.ranges.tag.fits c.requires c.ranges.generation.fits
