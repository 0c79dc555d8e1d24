-- That a run stands where it can stand is a fact: there is one proof of it at most.
use Rattle.std.proofs.Props.{props}
use Rattle.shelves.specs.declared.At.{At}
use Rattle.shelves.specs.declared.At.TheVariants.{Line, Page, Passing, Over}
use Rattle.shelves.specs.declared.Shelf.{Shelf}
use Rattle.shelves.specs.Steps.{GoodAt, Good}

good_at_prop : (at : At) → IsProp (GoodAt at)
good_at_prop (Line k n) = hlevel props
good_at_prop (Page n have) = hlevel props
good_at_prop (Passing p) = hlevel props
good_at_prop Over = hlevel props

pub good_prop : (s : Shelf) → IsProp (Good s)
good_prop s = hlevel (good_at_prop, props)
