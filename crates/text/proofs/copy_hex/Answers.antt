use Rattle.text.proofs.Copying.{unlost}
use Rattle.text.proofs.copy_hex.Goals as goal

pub invariant_of-hex : goal.invariant_of-hex
invariant_of-hex c = record { spelled = (unlost _ _ c.requires.hex_parsed, c.requires.count_value.0) }
