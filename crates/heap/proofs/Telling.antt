-- A call that succeeds, and one that is refused. Assumes nothing.
use Rattle.std.proofs.Common.{ℕ, ap}
use Rattle.word.specs.Result.{ok, refused}
use Rattle.refusal.specs.Told.{number_of, answered}
use Rattle.refusal.specs.declared.Refusal.{Refusal}
use Rattle.std.specs.Prelude.{Ok, Err}
use Rattle.heap.specs.Lent.{Lent}
use Rattle.heap.specs.Calls.{Changed}
use Rattle.heap.specs.Inner.Tells.{Does, Tells}

module _ {A : Type 0} (f g : A → ℕ) {l l' : Lent} {call : Changed A} where
  pub tells_is : {a : A} → Does l l' (ok a) call → Tells f g l l' (Ok ((f a), (g a))) call
  tells_is d = record { leaves = d.leaves; says = ap (answered f g) d.says }

  pub tells-not : {why : Refusal} → Does l l' (refused (number_of why)) call → Tells f g l l' (Err why) call
  tells-not d = record { leaves = d.leaves; says = ap (answered f g) d.says }
