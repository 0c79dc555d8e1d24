-- `heap::start_of` meets its contract: the run that it cuts is the ends.
use mathlib.Core.Path.{◌≡◌, ap, ◌∙◌}
use Prim.Native.Nat.{ℕ, ◌*◌, ◌-◌}
use lib.ListN.{take, drop}
use native.Mathlib.Omega.{arith}
use Rattle.word.specs.Run.{run, start_of}
use Rattle.heap.proofs.start_of.Goals as goal

pub returns : goal.returns
unfolding run
returns c = c.begins.ensures ∙ ap (λ (n : ℕ). start_of (take n (drop c.args.s c.args.wide.now)) c.args.i) (let e : 2 * c.args.s - c.args.s ≡ c.args.s = omega arith in e)
