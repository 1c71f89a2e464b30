use Prim.Native.Nat.{◌+◌}
use mathlib.Core.Path.{◌≡◌}
use mathlib.Core.Bool.{not}
use Rattle.doubles.specs.Run.{at}
use Rattle.knots.specs.Below.{all_below}
use lib.Ieee.{le}
use Rattle.knots.proofs.knots.apart_by.Given as goal

abbrev pub invariant-loop-i : goal.invariant-loop-i
invariant-loop-i l = l.fine ≡ all_below (λ k. not (le (at l.xs (k + l.gap)) (at l.xs k))) l.i
