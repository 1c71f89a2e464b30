-- `basis::row::middle_end` meets its contract.
-- Assumes nothing.
use native.Mathlib.Omega.{arith}
use Rattle.basis.specs.Ders.{end_of}
use Rattle.basis.proofs.row.middle_end.Goals as goal

pub returns-then-r-p : goal.returns-then-r-p
unfolding end_of
returns-then-r-p c = omega arith

pub returns-else-r-p : goal.returns-else-r-p
unfolding end_of
returns-else-r-p c = omega arith
