use mathlib.Core.Path.{refl, sym, ◌∙◌}
use native.Mathlib.Omega.{arith}
use Rattle.layout.proofs.ScalarLaws.{scalar-small, placing-start, placing-next, placing-end}
use Rattle.layout.proofs.layout_scalars.Goals as goal

pub loop-i-init : goal.loop-i-init
loop-i-init c = placing-start c.args.table.now _ _ _ c.requires.1

pub padded-o-requires : goal.padded-o-requires
padded-o-requires c = (omega (arith, c.loop-i.invariant.near, c.requires.2), scalar-small c.args.table.now _ _ _ (sym c.scalar_bytes.ensures ∙ c.unwrap-n.ensures))

pub overflow_add-off : goal.overflow_add-off
overflow_add-off c = let h = scalar-small c.args.table.now _ _ _ (sym c.scalar_bytes.ensures ∙ c.unwrap-n.ensures) in omega (arith, c.loop-i.invariant.near, c.requires.2, c.padded-o.ensures.1)

pub loop-i-preserved : goal.loop-i-preserved
loop-i-preserved c = placing-next c.args.table.now _ _ _ _ _ _ _ c.loop-i.invariant c.loop-i-test.true c.requires.2 _ (sym c.scalar_bytes.ensures ∙ c.unwrap-n.ensures) _ c.padded-o.ensures.0 _ c.max-align.ensures

pub returns : goal.returns
returns c = placing-end c.args.table.now _ _ _ _ _ _ _ c.loop-i.invariant c.loop-i-test.false c.requires.2 c.requires.1 _ (rw c.padded.ensures.0 refl)
