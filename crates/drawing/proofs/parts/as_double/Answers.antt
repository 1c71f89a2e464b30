-- A count fits a double.
-- Assumes nothing.
use Prim.Native.Nat.{◌^◌}
use native.Mathlib.Omega.{arith}
use lib.Ieee.{in_float}
use lib.Dec.{le→leb}
use Rattle.drawing.proofs.parts.as_double.Goals as goal

pub int_to_float-result : goal.int_to_float-result
unfolding in_float
int_to_float-result c = le→leb c.args.j (2 ^ 53) (omega arith)
