-- The intervals, or a refusal.
-- Assumes nothing.
use native.Mathlib.Omega.{arith}
use borrow.Author.Rules.{rules}
use Rattle.decimals.proofs.Storing.{both_stored}
use Rattle.listing.specs.Boxes.{outcome}
use Rattle.listing.specs.Ends.{ends_room}
use Rattle.listing.proofs.boxes.put_outcome.Goals as goal

pub put_all_ends-next-requires : goal.put_all_ends-next-requires
unfolding ends_room
put_all_ends-next-requires c = search rules

pub put_all_ends-requires : goal.put_all_ends-requires
unfolding ends_room
put_all_ends-requires c = search rules

pub returns-in-Ok : goal.returns-in-Ok
unfolding outcome ends_room
returns-in-Ok c = let a = c.put_all_ends-next.ensures in
    let b = c.put_all_ends.ensures in
    rw c.in-Ok.is
    (record {
      stored = rw c.shown_of-t.ensures at (both_stored a.stored b.stored);
      upper_bound = omega arith;
    })

pub returns-in-Err : goal.returns-in-Err
unfolding outcome
returns-in-Err c = let a = c.put_label.ensures in
    rw c.in-Err.is (record {
      stored = a.roomy (search rules);
      upper_bound = omega arith;
    })
