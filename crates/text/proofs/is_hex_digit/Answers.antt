use native.Mathlib.Omega.{arith}
use Rattle.text.proofs.Getting.{digit-hex, letter-hex, not-hex, not-hex-between, not-hex-above}
use Rattle.text.proofs.is_hex_digit.Goals as goal

pub returns-in-48-to-57 : goal.returns-in-48-to-57
returns-in-48-to-57 c = digit-hex c.args.b (omega arith) (omega arith)

pub returns-in-48-to-57-2 : goal.returns-in-48-to-57-2
returns-in-48-to-57-2 c = letter-hex c.args.b (omega arith) (omega arith)

pub returns-in_default : goal.returns-in_default
returns-in_default c = not-hex c.args.b (omega arith)

pub returns-in_default-2 : goal.returns-in_default-2
returns-in_default-2 c = not-hex-between c.args.b (omega arith) (omega arith)

pub returns-in_default-3 : goal.returns-in_default-3
returns-in_default-3 c = not-hex-above c.args.b (omega arith)
