-- The ends of three intervals.
-- Assumes nothing.
use native.Mathlib.Omega.{arith}
use Rattle.decimals.proofs.Storing.{both_stored}
use Rattle.listing.proofs.boxes.put_all_ends.Goals as goal

pub returns-clause-stored : goal.returns-clause-stored
returns-clause-stored c = both_stored c.put_ends-y.ensures.stored
    (both_stored c.put_ends-z.ensures.stored c.put_ends.ensures.stored)

pub returns-clause-upper_bound : goal.returns-clause-upper_bound
returns-clause-upper_bound c = omega arith
