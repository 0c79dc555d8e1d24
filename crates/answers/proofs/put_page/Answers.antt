-- `answers::put_page` meets its contract.
use Rattle.std.proofs.Common.{arith}
use mathlib.Core.Path.{refl}
use Rattle.answers.specs.Inner.Folding.{folded}
use Rattle.answers.proofs.Parts.{front-last}
use Rattle.answers.proofs.put_page.Goals as goal

pub returns : goal.returns
returns g c =
    front-last (λ b. folded b) c.min-n.result c.args.page.now c.fold.new.text _ _
    (omega (arith, c.min-n.ensures)) c.fold.ensures refl c.put_page_front.ensures
