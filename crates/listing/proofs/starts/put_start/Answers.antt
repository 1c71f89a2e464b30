-- Three pieces, one behind the other.
-- Assumes nothing.
use native.Mathlib.Omega.{arith}
use borrow.Author.Rules.{rules}
use Rattle.decimals.proofs.Storing.{both_stored}
use Rattle.listing.proofs.starts.put_start.Goals as goal

pub returns : goal.returns
returns c = let a = c.put_label-a.ensures in
    let b = c.put_bits-b.ensures in
    let d = c.put_bits.ensures in
    record {
      stored = both_stored (a.roomy (search rules)) (both_stored (b.roomy (search rules)) (d.roomy (search rules)));
      upper_bound = omega arith;
    }
