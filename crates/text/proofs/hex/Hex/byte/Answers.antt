use native.Mathlib.Omega.{arith}
use Rattle.text.proofs.Copying.{parsed}
use Rattle.text.proofs.hex.Hex.byte.Goals as goal

pub hex_byte-requires : goal.hex_byte-requires
hex_byte-requires c = record { hex_parsed = parsed _ _ c.args.self.spelled.0; i_in_bounds = omega (arith, c.requires, c.args.self.spelled.1) }
