-- Two decimals, or the bits of two doubles.
-- Assumes nothing.
use native.Mathlib.Omega.{arith}
use borrow.Author.Rules.{rules}
use Rattle.decimals.proofs.Storing.{both_stored}
use Rattle.listing.specs.Boxes.{spaced_ends, spaced_decimals}
use Rattle.listing.specs.Ends.{ends_room}
use Rattle.listing.proofs.boxes.put_ends.Goals as goal

pub returns-then-rounded : goal.returns-then-rounded
unfolding spaced_decimals ends_room
returns-then-rounded c = let room = rw c.if-rounded.true at
    c.requires in
    let a = c.put_number-next.ensures in
    let b = c.put_number.ensures in
    rw (
      c.if-rounded.true,
      ← c.lo.ensures,
      ← c.hi.ensures,
    )
    (record {
      stored = both_stored (a.roomy (omega arith)) (b.roomy (search rules));
      upper_bound = omega arith;
    })

pub returns : goal.returns
unfolding spaced_ends ends_room
returns c = let room = rw c.if-rounded.false at
    c.requires in
    let a = c.put_bits-next.ensures in
    let b = c.put_bits.ensures in
    rw (
      c.if-rounded.false,
      ← c.lo-2.ensures,
      ← c.hi-2.ensures,
    ) (record {
      stored = both_stored (a.roomy (omega arith)) (b.roomy (search rules));
      upper_bound = omega arith;
    })
