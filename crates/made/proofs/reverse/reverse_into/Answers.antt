-- `made::reverse::reverse_into` meets its contract.
-- Assumes nothing.
use native.Mathlib.Omega.{arith}
use Rattle.made.proofs.Reverses.{given-in, formed-is}
use mathlib.Core.Path.{◌≡◌}
use Prim.Native.Nat.{ℕ}
use Rattle.made.specs.Reverse.{back_place, back_number}
use Rattle.made.proofs.reverse.reverse_into.Goals as goal

pub run_back-requires : goal.run_back-requires
run_back-requires c = let l = c.requires.knots_in_bounds in
    record {
      n_in_bounds = omega arith;
      n_in_bounds_2 = l;
      n_value = (λ g. let z : ◌≡◌ {A = ℕ} 0 1 = cc in absurd (omega arith));
    }

pub run_back-requires-2 : goal.run_back-requires-2
run_back-requires-2 c = let q = c.requires in
    let v = q.valid_curve.triples in let l = q.points_in_bounds in
    record {
      n_in_bounds = omega arith;
      n_in_bounds_2 = l;
      n_value = (λ g. v);
    }

pub run_back-requires-3 : goal.run_back-requires-3
run_back-requires-3 c = let a = c.args in
    let n = c.given_len-w.ensures in
    let h = given-in a.curve.rational a.curve.weights.now in
    let q = c.requires.weights_in_bounds in
    record {
      n_in_bounds = omega arith;
      n_in_bounds_2 = omega arith;
      n_value = (λ g. let z : ◌≡◌ {A = ℕ} 0 1 = cc in absurd (omega arith));
    }

pub made_refusal-requires : goal.made_refusal-requires
made_refusal-requires c = let pr = c.requires in
    let a = c.args in
    let n = c.given_len-w.ensures in
    let x = pr.knots_in_bounds in let y = pr.points_in_bounds in let q = pr.weights_in_bounds in
    record {
      a_in_bounds = omega arith;
      b_in_bounds = omega arith;
      c_in_bounds = omega arith;
    }

pub returns : goal.returns
unfolding back_place back_number
returns c = let a = c.args in
    let q = c.requires in
    formed-is
    a.curve.degree a.curve.knots.now a.curve.points.now a.curve.rational a.curve.weights.now a.out_knots.now a.out_points.now a.out_weights.now _ _ _ q.out_knots_value q.out_points_value q.out_weights_value
    c.run_back.ensures
    c.run_back-2.ensures _
    c.given_len-w.ensures
    c.run_back-3.ensures _ c.made_refusal.ensures
