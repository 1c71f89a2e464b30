-- `insertion::lower::non_finite_row` meets its contract: all points before the place reached are finite.
-- Assumes nothing.
use Prim.Native.Nat.{◌≤◌}
use mathlib.Core.Path.{◌≡◌}
use mathlib.Core.Bool.{true}
use Rattle.knots.specs.Below.{all_below}
use Rattle.runs.specs.Point.{finite_vector}
use Rattle.edits.specs.Control.{vector_of}
use Rattle.edits.specs.Passes.{row_of}
use Rattle.insertion.proofs.lower.non_finite_row.Given as goal

abbrev pub invariant-loop-i : goal.invariant-loop-i
invariant-loop-i l = (l.i ≤ l.m) × (all_below (λ k. finite_vector (vector_of (row_of l.rational l.rows k))) l.i ≡ true)
