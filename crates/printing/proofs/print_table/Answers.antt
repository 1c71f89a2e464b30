-- The runs that were read are the fronts of theirs.
-- Assumes nothing.
use Rattle.std.specs.Prelude.{Result, Ok, List, Float, ◌≡◌}
use mathlib.Core.Path.{sym}
use lib.Seq.{length-take-le}
use Rattle.knots.specs.declared.refusal.Refusal.{Refusal}
use Rattle.record.specs.declared.table.Curve.{Curve}
use Rattle.record.specs.Validated.{Front, FrontOf}
use Rattle.printing.proofs.print_table.Goals as goal

fronts : (r : Result Curve Refusal) (t : Curve) (k p w : List Float) → r ≡ Ok t → FrontOf r k p w → Front t.layout t.rational k p w
fronts r t k p w e f = rw e at f

pub slice_bounds-knots-end : goal.slice_bounds-knots-end
slice_bounds-knots-end c = (fronts _ _ _ _ _ c.in-Ok.is c.read_table.ensures.front).knots

pub slice_bounds-print_curve-end : goal.slice_bounds-print_curve-end
slice_bounds-print_curve-end c = sym (length-take-le _ _ (fronts _ _ _ _ _ c.in-Ok.is c.read_table.ensures.front).knots)

pub slice_bounds-points-end : goal.slice_bounds-points-end
slice_bounds-points-end c = (fronts _ _ _ _ _ c.in-Ok.is c.read_table.ensures.front).points

pub slice_bounds-print_curve-end-in-Ok : goal.slice_bounds-print_curve-end-in-Ok
slice_bounds-print_curve-end-in-Ok c = sym (length-take-le _ _ (fronts _ _ _ _ _ c.in-Ok.is c.read_table.ensures.front).points)

pub slice_bounds-weights-end : goal.slice_bounds-weights-end
slice_bounds-weights-end c = (fronts _ _ _ _ _ c.in-Ok.is c.read_table.ensures.front).weights

pub slice_bounds-print_curve-end-in-Ok-2 : goal.slice_bounds-print_curve-end-in-Ok-2
slice_bounds-print_curve-end-in-Ok-2 c = sym (length-take-le _ _ (fronts _ _ _ _ _ c.in-Ok.is c.read_table.ensures.front).weights)
