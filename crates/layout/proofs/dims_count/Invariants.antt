-- `layout::dims_count` meets its contract.
use mathlib.Core.Path.{◌≡◌}
use Prim.Native.Nat.{◌-◌}
use Rattle.layout.specs.Layout.{dims_of}
use Rattle.layout.proofs.dims_count.Given as goal

abbrev pub invariant-loop-k : goal.invariant-loop-k
invariant-loop-k l = dims_of (l.dims - l._k) l.rest l.n ≡ dims_of l.dims l.d 1
