use Rattle.text.proofs.Getting.{hex-from-48, hex-from-97, hex-low-value, hex-high-value}
use Rattle.text.proofs.hex_value.Goals as goal

pub overflow_sub-result : goal.overflow_sub-result
overflow_sub-result c = hex-from-48 c.args.b c.requires

pub overflow_sub-result-else-b-le57 : goal.overflow_sub-result-else-b-le57
overflow_sub-result-else-b-le57 c = hex-from-97 c.args.b c.requires c.if-b-le57.false

pub returns-then-b-le57 : goal.returns-then-b-le57
returns-then-b-le57 c = hex-low-value c.args.b c.requires c.if-b-le57.true

pub returns-else-b-le57 : goal.returns-else-b-le57
returns-else-b-le57 c = hex-high-value c.args.b c.requires c.if-b-le57.false
