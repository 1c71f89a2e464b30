-- `elevation::into::raise_extracted` meets its contract.
-- Assumes nothing.
use Rattle.std.proofs.lemmas.Result.{err_from_is_err_and}
use Prim.Native.Nat.{ℕ, ◌+◌, ◌*◌, ◌≤◌}
use native.Mathlib.Omega.{arith}
use mathlib.Core.Path.{sym, ◌∙◌, subst, ap}
use lib.ListN.{length}
use Rattle.knots.proofs.Refusals.{let_by}
use Rattle.edits.specs.Rows.{given}
use Rattle.elevation.specs.Breaks.{breaks_of}
use Rattle.elevation.proofs.RaisedCurve.{elevated-is, some-points, lift-stop, lift-joined}
use Rattle.edits.specs.Control.{vector_of}
use Rattle.elevation.proofs.into.raise_extracted.Goals as goal

pub returns-in_err-lift_in : goal.returns-in_err-lift_in
returns-in_err-lift_in c = let p = err_from_is_err_and c.from_residual.result c.from_residual.ensures.1 in
    let a = c.args in
    let q = c.requires in
    rw
    (p.1, p.2)
    (lift-stop
    a.p a.e a.n (omega (arith, q.p_lt_n.3)) a.knots.now (breaks_of a.p a.n a.knots.now) a.rational a.m q.m_value.0 a.work.now q.m_value.1 _
    c.scale_in-scale.ensures a.out_knots.now a.out_points.now a.out_weights.now
    _ _ _ _ c.in_err-lift_in.ensures.value)

pub elevated_count-count-requires : goal.elevated_count-count-requires
elevated_count-count-requires c = let q = c.requires in
    let u = q.p_lt_n.4 in let l = q.p_lt_n.1 in
    record {
      p_lt_n = (q.p_lt_n.0, omega arith, q.p_lt_n.2);
      e_bound = (λ h. u);
    }

pub join-requires : goal.join-requires
join-requires c = let a = c.args in
    let q = c.requires in
    let w = c.elevated_count-count.ensures ∙ elevated-is a.p a.e a.n a.knots.now q.p_lt_n.3 in
    let k = q.m_value.0 in
    let l = q.m_value.1 in
    let d = q.p_lt_n.3 in
    record {
      p_lt_n = (q.p_lt_n.0, q.p_lt_n.1, omega arith, q.p_lt_n.4);
      count_value = w;
      knots_in_bounds = omega arith;
      e_in_bounds = subst (λ (x : ℕ). x + a.e + 1 ≤ length a.out_knots.now) (sym w) q.e_in_bounds;
      count_in_bounds = subst (λ (x : ℕ). x * 3 ≤ length a.out_points.now) (sym w) q.knots_in_bounds;
      count_in_bounds_2 = subst (λ (x : ℕ). given a.rational x ≤ length a.out_weights.now) (sym w) q.knots_in_bounds_2;
    }

pub returns : goal.returns
returns c = let a = c.args in
    let q = c.requires in
    lift-joined
    a.p a.e a.n (omega (arith, q.p_lt_n.3)) a.knots.now (breaks_of a.p a.n a.knots.now) a.rational a.m q.m_value.0 a.work.now q.m_value.1 _
    c.scale_in-scale.ensures a.out_knots.now a.out_points.now
    a.out_weights.now _ _ _ (let_by _ c.in_ok-lift_in.ensures.value) _
    c.in_ok-lift_in.ensures.work_after
    (some-points a.p a.m (breaks_of a.p a.n a.knots.now) q.m_value.0) _
    (c.vector_of-o.ensures ∙ ap vector_of c.row_at.ensures)
    _ c.join.ensures
