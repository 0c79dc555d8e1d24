-- `View::fits` meets its contract.
use Rattle.std.proofs.Common.{◌≡◌, ℕ, ◌+◌, ◌-◌, ◌<◌, ◌≤◌, leb, ◌∙◌, arith, le-leb, leb-true}
use Rattle.word.proofs.Bools.{bool-ext}
use Rattle.heap.proofs.Columns.{Sizes, Reads, sizes, reads}
use Rattle.heap.proofs.view.View.fits.Goals as goal
use Rattle.heap.proofs.view.View.fits.Goals.{Start}

K : (c : Start) → Sizes c.args.self.heap c.args.self.narrow.now c.args.self.wide.now c.args.self.pool.now
K c = sizes c.args.self.heap c.args.self.narrow.now c.args.self.wide.now c.args.self.pool.now c.args.self.formed

R : (c : Start) → c.args.i < c.args.self.heap.slots → Reads c.args.self.heap c.args.self.narrow.now c.args.self.wide.now c.args.self.pool.now c.args.i
R c b = reads c.args.self.heap c.args.self.narrow.now c.args.self.wide.now c.args.self.pool.now c.args.self.formed c.args.i b

-- what is left takes m exactly if both together fit
fits-left : (m room from to used F U n : ℕ) → from ≡ F → used ≡ U → to ≡ F + n → F + n ≤ U → U ≤ room → leb m (room - (used - (to - from))) ≡ leb (U - n + m) room
fits-left m room from to used F U n f u t less h =
    bool-ext (leb m (room - (used - (to - from)))) (leb (U - n + m) room)
    (λ y. le-leb (U - n + m) room (omega (arith, leb-true m (room - (used - (to - from))) y)))
    (λ y. le-leb m (room - (used - (to - from))) (omega (arith, leb-true (U - n + m) room y)))

pub start_of-from-requires : goal.start_of-from-requires
start_of-from-requires c = omega (arith, K (goal.at.start_of-from-requires c).Start, c.requires)

pub start_of-used-requires : goal.start_of-used-requires
start_of-used-requires c = omega (arith, K (goal.at.start_of-used-requires c).Start, c.requires)

pub overflow_add-size : goal.overflow_add-size
overflow_add-size c = omega (arith, K (goal.at.overflow_add-size c).Start, c.requires)

pub offset_bounds-wide-s : goal.offset_bounds-wide-s
offset_bounds-wide-s c = omega (arith, K (goal.at.offset_bounds-wide-s c).Start, c.requires)

pub bounds-wide-s : goal.bounds-wide-s
bounds-wide-s c = omega (arith, K (goal.at.bounds-wide-s c).Start, c.requires)

pub overflow_sub-size : goal.overflow_sub-size
overflow_sub-size c = omega (arith, c.start_of-from.ensures, R (goal.at.overflow_sub-size c).Start c.requires)

pub overflow_sub-result : goal.overflow_sub-result
overflow_sub-result c = omega (arith, c.start_of-from.ensures, c.start_of-used.ensures, R (goal.at.overflow_sub-result c).Start c.requires)

pub overflow_sub-result-2 : goal.overflow_sub-result-2
overflow_sub-result-2 c = omega (arith, c.start_of-from.ensures, c.start_of-used.ensures, R (goal.at.overflow_sub-result-2 c).Start c.requires)

pub returns : goal.returns
returns c = let b = R (goal.at.returns c).Start c.requires in fits-left _ _ _ _ _ _ _ _ (c.start_of-from.ensures ∙ b.from) (c.start_of-used.ensures ∙ b.used) b.end b.within b.fit
