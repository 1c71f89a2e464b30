use Rattle.edits.proofs.WorkCalls.{front-is}
use mathlib.Core.Path.{◌∙◌, ap, subst}
use Prim.Native.Nat.{ℕ, ◌*◌, ◌≤◌}
use native.Mathlib.Omega.{arith}
use lib.ListN.{length}
use Rattle.knots.specs.Refusal.{checked}
use Rattle.edits.specs.Rows.{given}
use Rattle.edits.specs.Passes.{row_of}
use Rattle.elevation.specs.Breaks.{breaks_of}
use Rattle.elevation.proofs.KnotWalks.{raised_long}
use Rattle.elevation.proofs.JoinedCurve.{join-20, join-end}
use Rattle.elevation.proofs.join.join.Goals as goal

pub put_knots-requires : goal.put_knots-requires
put_knots-requires c = let a = c.args in
    let pr = c.requires in
    let r = raised_long a.p a.e a.n a.knots.now (breaks_of a.p a.n a.knots.now) in let q = pr.count_value in let l = pr.e_in_bounds in
    record {
      p_lt_n = (pr.p_lt_n.0, pr.p_lt_n.1, pr.p_lt_n.3);
      knots_in_bounds = omega arith;
    }

pub put_segments-requires : goal.put_segments-requires
put_segments-requires c = let a = c.args in
    let pr = c.requires in
    let q = pr.count_value in
    let l = pr.p_lt_n.1 in
    record {
      p_lt_n = (pr.p_lt_n.0, omega arith, pr.p_lt_n.2, pr.p_lt_n.3);
      knots_in_bounds = pr.knots_in_bounds;
      knots_in_bounds_2 = subst (λ (x : ℕ). x * 3 ≤ length a.out_points.now) q pr.count_in_bounds;
      knots_in_bounds_3 = subst (λ (x : ℕ). given a.rational x ≤ length a.out_weights.now) q pr.count_in_bounds_2;
    }

pub returns-then-not-put_segments : goal.returns-then-not-put_segments
returns-then-not-put_segments c = let a = c.args in
    join-20
    a.p a.e a.n a.knots.now (breaks_of a.p a.n a.knots.now) a.rational (row_of a.rational a.work.now) a.o a.out_knots.now a.out_points.now
    a.out_weights.now _ _ _ _ c.put_segments.ensures c.if-not-put_segments.true _ c.refuse.ensures

pub returns : goal.returns
returns c = let a = c.args in
    let q = c.requires in
    join-end
    a.p a.e a.n a.knots.now (breaks_of a.p a.n a.knots.now) a.rational (row_of a.rational a.work.now) a.o a.out_knots.now a.out_points.now
    a.out_weights.now _ _ _ _ c.put_segments.ensures c.if-not-put_segments.false
    c.put_knots.ensures a.count q.count_value _ (let x =
    c.out_knots-1.given in
    let y = c.out_points-1.given in let z = c.out_weights-1.given in
    let i = q.e_in_bounds in let j = q.count_in_bounds in let k = q.count_in_bounds_2 in c.front_refusal.ensures
    ∙ ap checked (front-is a.e a.count a.rational _ _ _ (omega arith) (omega arith) (omega arith)))
