-- `protocol::field::is_dash` meets its contract.
use mathlib.Core.Path.{ap, ◌∙◌}
use lib.Dec.{eqb}
use Rattle.std.specs.Cmp.Lexicographic.{pointwise}
use Rattle.protocol.proofs.Spelling.{dash-eq}
use Rattle.protocol.proofs.field.is_dash.Goals as goal

pub returns : goal.returns
returns c = c.eq.ensures ∙ ap (pointwise eqb c.args.field.now) c.as_slice.ensures ∙ dash-eq c.args.field.now
