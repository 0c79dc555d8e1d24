-- `beside::compare_handles` meets its contract.
use mathlib.Core.Path.{refl}
use Rattle.beside.specs.Inner.Ranks.{place_in}
use Rattle.beside.specs.contracts.PlaceOrd.TheImpl.Laws.{total-law}
use Rattle.beside.proofs.Codings.{places-met}
use Rattle.beside.proofs.compare_handles.Goals as goal

pub returns : goal.returns
unfolding place_in
returns c = places-met total-law (λ x y. refl) (λ x y. refl) (λ x y. refl) (λ x y. refl) _ _ _ _ _ _ _ _ c.place_of.ensures c.place_of-2.ensures _ c.cmp.ensures
