use Prim.Native.Nat.{◌+◌}
use mathlib.Core.Path.{◌≡◌}
use mathlib.Core.Bool.{not}
use Rattle.doubles.specs.Run.{at}
use Rattle.knots.specs.Below.{all_below}
use lib.Ieee.{lt}
use Rattle.knots.proofs.knots.in_order.Given as goal

abbrev pub invariant-loop-i : goal.invariant-loop-i
invariant-loop-i l = l.fine ≡ all_below (λ k. not (lt (at l.xs (k + 1)) (at l.xs k))) l.i
