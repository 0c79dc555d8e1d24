-- `heap_calls::free` meets its contract: by what the handle resolves to.
use Rattle.std.proofs.Common.{refl}
use Rattle.std.proofs.lemmas.Result.{err_from_is_err_and}
use Rattle.heap.specs.Inner.Loans.{lies}
use Rattle.heap.proofs.Carrying.{resolved-there}
use Rattle.heap_calls.proofs.Taking.{resolved-alive, free-unfound, free-at}
use Rattle.heap_calls.proofs.free.Goals as goal

pub returns-in_err-i : goal.returns-in_err-i
returns-in_err-i c =
    let p = err_from_is_err_and c.from_residual.result c.from_residual.ensures.1 in
    rw (p.1, p.2) (record { loans = record { narrow = refl; wide = refl; pool = refl }; tells = free-unfound (lies c.args.lent.now) c.args.lent.now.formed c.args.x _ (resolved-there _ _ c.view.ensures c.in_err-i.ensures) })

pub put_away-requires : goal.put_away-requires
put_away-requires c = resolved-alive (lies c.args.lent.now) c.args.lent.now.formed c.args.x _ (resolved-there _ _ c.view.ensures c.in_ok-i.ensures)

pub returns : goal.returns
returns c = record { loans = c.put_away.ensures.loans; tells = free-at (lies c.args.lent.now) c.args.lent.now.formed c.args.x _ _ (resolved-there _ _ c.view.ensures c.in_ok-i.ensures) c.put_away.ensures.leaves }
