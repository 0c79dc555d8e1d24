-- `mark::objects::Objects::of` meets its contract.
use Rattle.mark.proofs.Formed.{formed-fit}
use Rattle.mark.proofs.objects.Objects.of.Goals as goal

pub invariant_of-slots : goal.invariant_of-slots
invariant_of-slots c = record { runs = (formed-fit c.args.view.heap c.args.view.narrow.now c.args.view.wide.now c.args.view.pool.now c.args.view.formed).runs }

pub invariant_of-result : goal.invariant_of-result
invariant_of-result c = record { fit = formed-fit c.args.view.heap c.args.view.narrow.now c.args.view.wide.now c.args.view.pool.now c.args.view.formed }
