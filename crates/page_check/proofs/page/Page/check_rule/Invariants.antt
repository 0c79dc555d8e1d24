use mathlib.Core.Path.{◌≡◌}
use Prim.Native.Nat.{◌-◌}
use lib.ListN.{length}
use Rattle.page_check.proofs.Rules.{Left}
use Rattle.page_check.proofs.page.Page.check_rule.Given as goal

abbrev pub invariant-loop-base : goal.invariant-loop-base
invariant-loop-base l = (length l.row ≡ length l.initial.row) × Left l.fn.self.text.now l.fn.self.sections l.rule l.k l.base

abbrev pub decreases-loop-base : goal.decreases-loop-base
decreases-loop-base l = l.slots - l.base
