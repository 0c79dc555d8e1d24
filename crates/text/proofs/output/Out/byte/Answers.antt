use mathlib.Core.Path.{refl}
use native.Mathlib.Omega.{arith}
use Rattle.text.proofs.Putting.{puts-byte}
use Rattle.text.proofs.output.Out.byte.Goals as goal

pub returns : goal.returns
returns c = record { loan = refl; puts = puts-byte c.args.self.now.page.now c.args.self.now.at c.args.b (omega (arith, c.requires)) }
