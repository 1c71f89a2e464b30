-- `made::iso_curve::iso_curve` meets its contract.
-- Assumes nothing.
use Rattle.std.proofs.Common.{ℕ, ◌≡◌, sym, ◌∙◌, ap, ap₂, length}
use Rattle.std.proofs.lemmas.Result.{err_from_is_err_and}
use Rattle.knots.specs.Clear.{zeros}
use Rattle.knots.proofs.Refusals.{let_by}
use Rattle.made.specs.IsoCurve.{iso_side, iso_hull, iso_start}
use Rattle.runs.proofs.Overlays.{cleared, cleared-length}
use Rattle.made.proofs.IsoCurves.{along-resized, iso-refused, iso-answered, iso-unformed}
use Rattle.made.proofs.iso_curve.iso_curve.Goals as goal

pub returns-in_err-iso_start : goal.returns-in_err-iso_start
returns-in_err-iso_start c = let a = c.args in
    let p = err_from_is_err_and c.from_residual.result c.from_residual.ensures.1 in rw (p.1, p.2)
    (iso-refused
    a.surface.u_degree a.surface.v_degree a.surface.u_knots.now a.surface.v_knots.now a.surface.u_count a.surface.v_count a.surface.points.now a.surface.rational a.surface.weights.now a.t (length a.out_points.now)
    (length a.out_weights.now) a.constant_u c.in_err-iso_start.ensures _ _ c.clear_two.ensures.0 c.clear_two.ensures.1)

pub iso_into-formed-requires : goal.iso_into-formed-requires
iso_into-formed-requires c = let b = c.clear_two in
    let a = c.args in
    let x = cleared-length _ (length a.out_points.now) b.ensures.0 in
    let y = cleared-length _ (length a.out_weights.now) b.ensures.1 in
    let m : (iso_start a.surface.u_degree a.surface.v_degree a.surface.u_knots.now a.surface.v_knots.now a.surface.u_count a.surface.v_count a.surface.points.now a.surface.rational a.surface.weights.now a.constant_u
    a.t (length b.new.x) (length b.new.y)).number ≡ 0 =
    ap₂
    (λ (i j : ℕ). (iso_start a.surface.u_degree a.surface.v_degree a.surface.u_knots.now a.surface.v_knots.now a.surface.u_count a.surface.v_count a.surface.points.now a.surface.rational a.surface.weights.now a.constant_u
    a.t i j).number)
    x y
    ∙ let_by _ c.in_ok-iso_start.ensures in
    record {
      out_weights_value = m;
      out_points_value = cleared _ (length a.out_points.now) b.ensures.0;
      out_weights_value_2 = cleared _ (length a.out_weights.now) b.ensures.1;
    }

pub returns-then-is_err : goal.returns-then-is_err
returns-then-is_err c = let a = c.args in
    let x = cleared-length _ (length a.out_points.now) c.clear_two.ensures.0 in
    let y = cleared-length _ (length a.out_weights.now) c.clear_two.ensures.1 in
    let k = c.clear_two-then-is_err.ensures in
    iso-unformed
    a.surface.u_degree a.surface.v_degree a.surface.u_knots.now a.surface.v_knots.now a.surface.u_count a.surface.v_count a.surface.points.now a.surface.rational a.surface.weights.now a.t (length a.out_points.now)
    (length a.out_weights.now) a.constant_u (let_by _ c.in_ok-iso_start.ensures) _ _ _
    (along-resized
    (iso_hull a.surface.u_degree a.surface.v_degree a.surface.u_knots.now a.surface.v_knots.now a.surface.u_count a.surface.v_count a.surface.points.now a.surface.rational a.surface.weights.now a.constant_u a.t)
    (iso_side a.surface.u_degree a.surface.v_degree a.surface.u_knots.now a.surface.v_knots.now a.surface.u_count a.surface.v_count a.surface.points.now a.surface.rational a.surface.weights.now a.constant_u a.t)
    (length a.out_points.now) (length a.out_weights.now) _ _ _ _ _ x y c.iso_into-formed.ensures)
    (sym c.is_err.ensures.value ∙ c.if-is_err.true) _ _
    (k.0 ∙ ap zeros (c.out_points-2-1.given ∙ x))
    (k.1 ∙ ap zeros (c.out_weights-2-1.given ∙ y))

pub returns-else-is_err : goal.returns-else-is_err
returns-else-is_err c = let a = c.args in
    let x = cleared-length _ (length a.out_points.now) c.clear_two.ensures.0 in
    let y = cleared-length _ (length a.out_weights.now) c.clear_two.ensures.1 in
    iso-answered
    a.surface.u_degree a.surface.v_degree a.surface.u_knots.now a.surface.v_knots.now a.surface.u_count a.surface.v_count a.surface.points.now a.surface.rational a.surface.weights.now a.t (length a.out_points.now)
    (length a.out_weights.now) a.constant_u (let_by _ c.in_ok-iso_start.ensures) _ _ _
    (along-resized
    (iso_hull a.surface.u_degree a.surface.v_degree a.surface.u_knots.now a.surface.v_knots.now a.surface.u_count a.surface.v_count a.surface.points.now a.surface.rational a.surface.weights.now a.constant_u a.t)
    (iso_side a.surface.u_degree a.surface.v_degree a.surface.u_knots.now a.surface.v_knots.now a.surface.u_count a.surface.v_count a.surface.points.now a.surface.rational a.surface.weights.now a.constant_u a.t)
    (length a.out_points.now) (length a.out_weights.now) _ _ _ _ _ x y c.iso_into-formed.ensures)
    (sym c.is_err.ensures.value ∙ c.if-is_err.false)
