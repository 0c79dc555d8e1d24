-- A heap under a type table, as far as two saves are compared (02, [5]).
use Rattle·ty.specs.Types.{Table}
use Rattle·heap.specs.State.{State, slotAt}
use Rattle·heap.specs.Calls.{resolve}
use Rattle·collection.specs.Collected.{found}
use Rattle·alike.specs.Same.{Model}
use Rattle·models·specs.specs.Objects.{modelOf}

-- A handle leads to the live slot that it resolves to, and a slot holds the object that its kind, type, start and bytes make. Only what a handle leads to is reached.
unfoldable pub heapModel : Table → State → Model
heapModel T h = modelOf T (λ x. found (resolve h x)) (λ i. slotAt h i .kind) (λ i. slotAt h i .type) (λ i. slotAt h i .start) (λ i. slotAt h i .bytes)
