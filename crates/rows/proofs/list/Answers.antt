-- `rows::list` meets its contract.
use Prim.Native.Nat.{◌≤◌, ◌<◌}
use lib.ListN.{length}
use borrow.Author.Tests.{lt-ltb, le-ltb}
use Rattle.rows.specs.Inner.Row.{listed}
use Rattle.rows.specs.Inner.Listing.{listing, listed_into}
use Rattle.rows.proofs.list.Goals as goal

pub returns-then-out-count : goal.returns-then-out-count
unfolding listing listed_into
returns-then-out-count c = let h : length c.args.out.now < length (listed 64 c.args.row.now) = rw (← c.count.ensures) c.if-out-count.true in
    let short = lt-ltb _ _ h in
    (simp short, simp short)

pub returns : goal.returns
unfolding listing listed_into
returns c = let h : length (listed 64 c.args.row.now) ≤ length c.args.out.now = rw (← c.count.ensures) c.if-out-count.false in
    let room = le-ltb _ _ h in
    (simp (room, c.list_row.ensures.bits), simp room c.list_row.ensures.written)
