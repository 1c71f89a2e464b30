-- The numbers are read, then validated; a refusal of the curve clears the runs again.
-- Assumes nothing.
use Rattle.std.proofs.lemmas.Result.{err_from_is_err_and}
use Rattle.record.proofs.Numbers.{fits-runs}
use Rattle.record.proofs.Validated.{room, refused-first, refused-curve, curve-read}
use Rattle.record.proofs.table.read_table.Goals as goal

pub returns-in_err-layout : goal.returns-in_err-layout
returns-in_err-layout c = let a = c.args in
    let q = err_from_is_err_and c.from_residual.result c.from_residual.ensures.1 in
    rw (q.1, q.2) (refused-first a.s.now a.knots.now a.points.now a.weights.now _ _ _ c.in_err-layout.field-0.0 c.in_err-layout.ensures)

pub layout_refusal-requires : goal.layout_refusal-requires
layout_refusal-requires c = let a = c.args in
    let l = c.in_ok-layout.layout in
    let fits = fits-runs l _ _ _ (room a.s.now a.knots.now a.points.now a.weights.now _ _ _ l c.in_ok-layout.ensures) in
    record {
      knots_in_bounds = rw c.read_numbers.auto.knots fits.0;
      points_in_bounds = rw c.read_numbers.auto.points fits.1;
      weights_in_bounds = rw c.read_numbers.auto.weights fits.2;
    }

pub returns-in-Err : goal.returns-in-Err
returns-in-Err c = let a = c.args in
    let read = c.read_numbers in
    rw (c.clear.ensures, c.clear-in-Err.ensures, c.clear-in-Err-2.ensures, read.auto.knots, read.auto.points, read.auto.weights)
    (refused-curve a.s.now a.knots.now a.points.now a.weights.now _ _ _ c.in_ok-layout.layout c.in_ok-layout.ensures c.in-Err.refusal c.in-Err.ensures)

pub returns : goal.returns
returns c = let a = c.args in
    let read = c.read_numbers in
    rw c.is_rational.ensures
    (curve-read a.s.now a.knots.now a.points.now a.weights.now _ _ _ c.in_ok-layout.layout c.in_ok-layout.ensures c.in_default.field-0 c.in_default.ensures read.auto.knots read.auto.points read.auto.weights)
