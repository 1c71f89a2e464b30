-- `elevation::copy::copy_curve` meets its contract.
-- Assumes nothing.
use mathlib.Core.Path.{◌∙◌}
use lib.ListN.{length}
use Rattle.runs.proofs.Cleared.{copied-whole}
use Rattle.elevation.proofs.Overlaid.{given-copied, given-left}
use Rattle.elevation.proofs.copy.copy_curve.Goals as goal

pub returns-then-curve : goal.returns-then-curve
returns-then-curve c = let a = c.args in
    let q = c.requires in (
      c.copy_run.ensures ∙ copied-whole _ a.curve.knots.now q.knots_in_bounds.0,
      c.copy_run-2.ensures ∙ copied-whole _ a.curve.points.now q.knots_in_bounds.1,
      given-copied
          (length a.out_weights.now) a.curve.weights.now _ a.curve.rational c.if-curve.true (q.weights_in_bounds c.if-curve.true)
          c.copy_run-then-curve.ensures,
    )

pub returns-else-curve : goal.returns-else-curve
returns-else-curve c = let a = c.args in
    let q = c.requires in (
      c.copy_run.ensures ∙ copied-whole _ a.curve.knots.now q.knots_in_bounds.0,
      c.copy_run-2.ensures ∙ copied-whole _ a.curve.points.now q.knots_in_bounds.1,
      given-left (length a.out_weights.now) a.curve.weights.now _ a.curve.rational c.if-curve.false c.clear.ensures,
    )
