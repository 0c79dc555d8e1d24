use native.Mathlib.Omega.{arith}
use Rattle.text.proofs.Copying.{inside, from-digits, high-digit, low-digit, hex-value-small}
use Rattle.text.proofs.hex_byte.Goals as goal

pub overflow_mul-k : goal.overflow_mul-k
overflow_mul-k c = omega (arith, inside c.args.s.now c.args.at c.requires.hex_parsed c.args.i c.requires.i_in_bounds)

pub overflow_add-k : goal.overflow_add-k
overflow_add-k c = omega (arith, inside c.args.s.now c.args.at c.requires.hex_parsed c.args.i c.requires.i_in_bounds)

pub bounds-s-k : goal.bounds-s-k
bounds-s-k c = omega (arith, inside c.args.s.now c.args.at c.requires.hex_parsed c.args.i c.requires.i_in_bounds)

pub hex_value-requires : goal.hex_value-requires
hex_value-requires c = high-digit c.args.s.now c.args.at c.requires.hex_parsed c.args.i c.requires.i_in_bounds

pub overflow_mul-result : goal.overflow_mul-result
overflow_mul-result c = omega (arith, hex-value-small c.args.s.now c.args.at c.args.i c.hex_value.result c.requires.hex_parsed c.requires.i_in_bounds c.hex_value.ensures)

pub overflow_add-k-2 : goal.overflow_add-k-2
overflow_add-k-2 c = omega (arith, inside c.args.s.now c.args.at c.requires.hex_parsed c.args.i c.requires.i_in_bounds)

pub bounds-s-k-2 : goal.bounds-s-k-2
bounds-s-k-2 c = omega (arith, inside c.args.s.now c.args.at c.requires.hex_parsed c.args.i c.requires.i_in_bounds)

pub hex_value-requires-2 : goal.hex_value-requires-2
hex_value-requires-2 c = low-digit c.args.s.now c.args.at c.requires.hex_parsed c.args.i c.requires.i_in_bounds

pub overflow_add-result : goal.overflow_add-result
overflow_add-result c = omega (arith, (from-digits c.args.s.now c.args.at c.args.i _ _ c.requires.hex_parsed c.requires.i_in_bounds c.hex_value.ensures c.hex_value-2.ensures).whole)

pub returns : goal.returns
returns c = (from-digits c.args.s.now c.args.at c.args.i _ _ c.requires.hex_parsed c.requires.i_in_bounds c.hex_value.ensures c.hex_value-2.ensures).value
