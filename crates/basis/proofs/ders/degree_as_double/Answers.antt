-- `basis::ders::degree_as_double` meets its contract.
-- Assumes nothing.
use Prim.Native.Nat.{◌^◌}
use native.Mathlib.Omega.{arith}
use lib.Ieee.{in_float}
use lib.Dec.{le→leb}
use Rattle.basis.proofs.ders.degree_as_double.Goals as goal

pub int_to_float-result : goal.int_to_float-result
unfolding in_float
int_to_float-result c = le→leb c.args.p (2 ^ 53) (omega arith)
