use mathlib.Core.Path.{refl}
use Prim.Native.Nat.{◌+◌}
use mathlib.Core.Path.{◌≡◌}
use native.Mathlib.Omega.{arith}
use Rattle.text.proofs.Putting.{copies-begin, copies-next, copies-stop, puts-at}
use Rattle.text.proofs.hex.Hex.copy.Goals as goal

pub loop-i-init : goal.loop-i-init
loop-i-init c = search copies-begin

pub loop-i-preserved : goal.loop-i-preserved
loop-i-preserved c = search copies-next

pub returns : goal.returns
returns c = puts-at (copies-stop c.args.self.count c.loop-i.invariant c.loop-i-test.false c.args.self.spelled.1) (let v : c.args.to + c.loop-i.i ≡ c.args.to + c.args.self.count = omega arith in v) refl
