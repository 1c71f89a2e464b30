-- A curve that was laid into a run stands there.
-- Assumes nothing.
use Prim.Native.Nat.{ℕ, ◌+◌, ◌*◌, ◌≤◌}
use mathlib.Core.Bool.{Bool, true}
use mathlib.Core.Path.{◌≡◌, refl, subst}
use mathlib.Core.List.{List}
use native.Mathlib.Omega.{arith}
use lib.ListN.{length}
use lib.Ieee.{Float}
use Rattle.knots.specs.Curve.{count_of}
use Rattle.edits.specs.Whole.{given_of}
use Rattle.edits.specs.Work.{laid, knots_from, points_from, weights_from}
use Rattle.edits.specs.Passes.{CurveIn}
use Rattle.edits.proofs.IntoRun.{points-back, weights-back, knots-back}
use Rattle.edits.proofs.RunWithCurve.{laid_in}

module _ (a : ℕ) (d ks ps : List Float) (g : Bool) (ws : List Float) (p n : ℕ)
    (K : length ks ≡ n + p + 1) (P : length ps ≡ n * 3) (W : g ≡ true → length ws ≡ n) (A : n * 4 ≤ a) (L : a + (n + p + 1) ≤ length d) where
  count : count_of ps ≡ n
  count = omega arith

  stands : CurveIn a ks ps g ws d (laid a d ks ps g ws)
  stands = let c = count in laid_in a d ks ps g ws (omega arith) (omega arith)

  pub knots-laid : knots_from a p n (laid a d ks ps g ws) ≡ ks
  knots-laid = knots-back a ks ps g ws d (laid a d ks ps g ws) stands p n K

  pub points-laid : points_from n (laid a d ks ps g ws) ≡ ps
  points-laid = subst (λ (m : ℕ). points_from m (laid a d ks ps g ws) ≡ ps) count (let c = count in points-back a ks ps g ws d (laid a d ks ps g ws) stands (omega arith))

  pub weights-laid : weights_from g n (laid a d ks ps g ws) ≡ given_of g ws
  weights-laid =
      subst (λ (m : ℕ). weights_from g m (laid a d ks ps g ws) ≡ given_of g ws) count
      (weights-back a ks ps g ws d (laid a d ks ps g ws) stands g refl (λ e. let w = W e in let c = count in omega arith))
