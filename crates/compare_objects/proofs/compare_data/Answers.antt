-- `compare_objects::compare_data` meets its contract.
use mathlib.Core.Path.{◌∙◌}
use Rattle.alike.specs.Inner.ByTurns.{◌and_then◌}
use Rattle.compare_objects.proofs.Data.{data-traced, data-kept, data_is}
use Rattle.compare_objects.proofs.compare_data.Goals as goal

pub returns-in_default : goal.returns-in_default
returns-in_default c = record { value = data-traced _ _ _ _ _ _ _ _ _ _ _ _ _ c.trace_beside-r.ensures c.requires.fact c.in_default.is; work_unchanged = data-traced _ _ _ _ _ _ _ _ _ _ _ _ _ c.trace_beside-r.ensures c.requires.fact c.in_default.is }

pub returns : goal.returns
returns c =
    record {
      value = c.then-2.ensures ∙ (λ i. c.then.ensures i and_then c.order_of-handles.result) ∙ data_is _ _ _ _ _ _ _ _ _ _ _ _ _ c.trace_beside-r.ensures c.requires.fact _ c.in-Some.is c.requires.even _ c.min-from.ensures _ _ _ _ c.compare_bytes-hidden.ensures c.order_of-before.ensures c.then_bytes-shown.ensures c.order_of-handles.ensures;
      work_unchanged = data-kept _ _ _ _ _ _ _ _ _ _ _ _ _ c.trace_beside-r.ensures c.requires.fact _ c.in-Some.is;
    }
