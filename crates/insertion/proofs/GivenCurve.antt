-- The curve that is given, laid into scratch: what is read back from there.
-- Assumes nothing.
use Rattle.std.specs.Prelude.{Result, Ok}
use Prim.Native.Nat.{ℕ, ◌+◌, ◌*◌, ◌/◌, ◌≤◌}
use mathlib.Core.Bool.{Bool}
use mathlib.Core.Path.{◌≡◌, refl, sym, subst}
use mathlib.Core.List.{List}
use native.Mathlib.Omega.{arith}
use lib.ListN.{length}
use lib.Ieee.{Float}
use Rattle.knots.specs.Refusal.{checked}
use Rattle.knots.specs.Knots.{ValidKnots}
use Rattle.knots.specs.Curve.{ValidCurve}
use Rattle.knots.specs.declared.refusal.Refusal.{Refusal}
use Rattle.edits.specs.Whole.{given_of}
use Rattle.edits.specs.Work.{knots_from, points_from, weights_from, lay_outcome, refusal_of, work_in}
use Rattle.edits.specs.Passes.{CurveIn}
use Rattle.edits.proofs.Starting.{thirds}
use Rattle.edits.proofs.IntoRun.{knots-back, points-back, weights-back}
use Rattle.edits.proofs.WorkCalls.{laid-curve}
use Rattle.edits.proofs.RowReads.{given-fits}
use Rattle.insertion.specs.Fold.{insert_all}
use Rattle.insertion.proofs.Outputs.{goal-is}

module _ (p : ℕ) (ks ps : List Float) (g : Bool) (ws ts w₀ : List Float) (v : ValidCurve p ks ps g ws) (room : 10 * (length ps / 3 + length ts) + 2 * (p + 1) ≤ length w₀) where
  abbrev n : ℕ
  n = length ps / 3

  abbrev a : ℕ
  a = (n + length ts) * 4

  module _ (r : Result Unit Refusal) (w₁ : List Float) (R : r ≡ checked (refusal_of (lay_outcome ks ps g ws a (length w₀)))) (W : w₁ ≡ work_in a g w₀ (lay_outcome ks ps g ws a (length w₀))) where
    stands : (r ≡ Ok tt) × CurveIn a ks ps g ws w₀ w₁
    stands = laid-curve ks ps g ws a (length w₀) w₀ refl (given-fits g n (length ws) v.controls.weights) (omega arith) (let l = v.knots.long in omega arith) r w₁ R W

    pub given-laid : r ≡ Ok tt
    given-laid = stands.0

    knots-are : knots_from a p n w₁ ≡ ks
    knots-are = knots-back a ks ps g ws w₀ w₁ stands.1 p n v.knots.long

    pub given-valid : ValidKnots p n (knots_from a p n w₁)
    given-valid = subst (ValidKnots p n) (sym knots-are) v.knots

    pub given-goal : insert_all p g n (knots_from a p n w₁) (points_from n w₁) (weights_from g n w₁) ts ≡ insert_all p g n ks ps (given_of g ws) ts
    given-goal =
        goal-is p g n ts knots-are (points-back a ks ps g ws w₀ w₁ stands.1 (thirds v.triples)) (weights-back a ks ps g ws w₀ w₁ stands.1 g refl v.controls.weights)
