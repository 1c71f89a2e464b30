-- Four pieces, one behind the other.
-- Assumes nothing.
use native.Mathlib.Omega.{arith}
use borrow.Author.Rules.{rules}
use Rattle.decimals.proofs.Storing.{both_stored}
use Rattle.drawing.proofs.paths.put_corners.Goals as goal

pub returns : goal.returns
returns c = let a = c.put_number-a.ensures in
    let b = c.put_number-b.ensures in
    let d = c.put_number-c.ensures in
    let e = c.put_number.ensures in
    record {
      stored = both_stored (a.roomy (search rules)) (both_stored (b.roomy (search rules)) (both_stored (d.roomy (search rules)) (e.roomy (search rules))));
      upper_bound = omega arith;
    }
