-- `mark::objects::seals` meets its contract.
use mathlib.Core.Path.{refl}
use native.Mathlib.Omega.{arith}
use Rattle.mark.proofs.Formed.{formed-seals, seals-end}
use Rattle.mark.proofs.objects.seals.Goals as goal

pub overflow_add-to : goal.overflow_add-to
overflow_add-to c = omega (arith, seals-end c.args.view.heap c.args.view.narrow.now c.args.view.wide.now c.args.view.pool.now c.args.view.formed, c.well_formed)

pub slice_bounds-result-end : goal.slice_bounds-result-end
slice_bounds-result-end c = seals-end c.args.view.heap c.args.view.narrow.now c.args.view.wide.now c.args.view.pool.now c.args.view.formed

pub returns : goal.returns
returns c = formed-seals c.args.view.heap c.args.view.narrow.now c.args.view.wide.now c.args.view.pool.now c.args.view.formed _ _ refl refl
