-- `made::reverse::reversed` meets its contract.
-- Assumes nothing.
use Rattle.std.proofs.Common.{sym, ◌∙◌, ap, length, arith}
use Rattle.std.proofs.lemmas.Result.{err_from_is_err_and}
use Rattle.knots.specs.Clear.{zeros}
use Rattle.knots.proofs.Refusals.{let_by}
use Rattle.runs.proofs.Overlays.{cleared, cleared-length}
use Rattle.made.proofs.Reverses.{start-open, resized, reverse-refused, reverse-answered, reverse-unformed}
use Rattle.made.proofs.reverse.reversed.Goals as goal

pub returns-in_err-reverse_start : goal.returns-in_err-reverse_start
returns-in_err-reverse_start c = let a = c.args in
    let p = err_from_is_err_and c.from_residual.result c.from_residual.ensures.1 in rw (p.1, p.2)
    (reverse-refused
    a.curve.degree a.curve.knots.now a.curve.points.now a.curve.rational a.curve.weights.now (length a.out_knots.now) (length a.out_points.now) (length a.out_weights.now)
    c.in_err-reverse_start.ensures _ _ _ c.clear_three.ensures.0 c.clear_three.ensures.1 c.clear_three.ensures.2)

pub reverse_into-formed-requires : goal.reverse_into-formed-requires
reverse_into-formed-requires c = let b = c.clear_three in
    let a = c.args in
    let o =
    start-open a.curve.degree a.curve.knots.now a.curve.points.now a.curve.rational a.curve.weights.now (length a.out_knots.now) (length a.out_points.now) (length a.out_weights.now)
    (let_by _ c.in_ok-reverse_start.ensures) in
    let x = cleared-length _ (length a.out_knots.now) b.ensures.0 in
    let y = cleared-length _ (length a.out_points.now) b.ensures.1 in
    let z = cleared-length _ (length a.out_weights.now) b.ensures.2 in
    let h = o.knots-room in
    let i = o.points-room in
    let j = o.weights-room in
    record {
      valid_curve = o.curve;
      knots_in_bounds = omega arith;
      points_in_bounds = omega arith;
      weights_in_bounds = omega arith;
      out_knots_value = cleared _ (length a.out_knots.now) b.ensures.0;
      out_points_value = cleared _ (length a.out_points.now) b.ensures.1;
      out_weights_value = cleared _ (length a.out_weights.now) b.ensures.2;
    }

pub returns-then-is_err : goal.returns-then-is_err
returns-then-is_err c = let a = c.args in
    let x = cleared-length _ (length a.out_knots.now) c.clear_three.ensures.0 in
    let y = cleared-length _ (length a.out_points.now) c.clear_three.ensures.1 in
    let z = cleared-length _ (length a.out_weights.now) c.clear_three.ensures.2 in
    let k = c.clear_three-then-is_err.ensures in
    reverse-unformed
    a.curve.degree a.curve.knots.now a.curve.points.now a.curve.rational a.curve.weights.now (length a.out_knots.now) (length a.out_points.now) (length a.out_weights.now)
    (let_by _ c.in_ok-reverse_start.ensures) _ _ _ _
    (resized
    a.curve.degree a.curve.knots.now a.curve.points.now a.curve.rational a.curve.weights.now (length a.out_knots.now) (length a.out_points.now) (length a.out_weights.now) _ _ _ _ _ _ _ x y z
    c.reverse_into-formed.ensures)
    (sym c.is_err.ensures.value ∙ c.if-is_err.true) _ _ _
    (k.0 ∙ ap zeros (c.out_knots-2-1.given ∙ x))
    (k.1 ∙ ap zeros (c.out_points-2-1.given ∙ y))
    (k.2 ∙ ap zeros (c.out_weights-2-1.given ∙ z))

pub returns-else-is_err : goal.returns-else-is_err
returns-else-is_err c = let a = c.args in
    let x = cleared-length _ (length a.out_knots.now) c.clear_three.ensures.0 in
    let y = cleared-length _ (length a.out_points.now) c.clear_three.ensures.1 in
    let z = cleared-length _ (length a.out_weights.now) c.clear_three.ensures.2 in
    reverse-answered
    a.curve.degree a.curve.knots.now a.curve.points.now a.curve.rational a.curve.weights.now (length a.out_knots.now) (length a.out_points.now) (length a.out_weights.now)
    (let_by _ c.in_ok-reverse_start.ensures) _ _ _ _
    (resized
    a.curve.degree a.curve.knots.now a.curve.points.now a.curve.rational a.curve.weights.now (length a.out_knots.now) (length a.out_points.now) (length a.out_weights.now) _ _ _ _ _ _ _ x y z
    c.reverse_into-formed.ensures)
    (sym c.is_err.ensures.value ∙ c.if-is_err.false)
