-- What the passes of the code promise each other. The contract of `trim` names none of it.
-- Assumes nothing.
use Rattle.std.specs.Prelude.{ℕ, Bool, ◌≡◌, List, Float, Result}
use Rattle.knots.specs.Refusal.{checked}
use Rattle.knots.specs.Curve.{formed_refusal}
use Rattle.knots.specs.declared.refusal.Refusal.{Refusal}
use Rattle.runs.specs.Lent.{padded}

-- a curve of m points stands at the front of three runs of a, b and c numbers, and r is its refusal
pub record CutDone (p m : ℕ) (g : Bool) (ks ps ws : List Float) (a b c : ℕ) (k₁ p₁ w₁ : List Float) (r : Result Unit Refusal) : Type 0 where
  pub refusal : r ≡ checked (formed_refusal p m ks ps g ws)
  pub knots : k₁ ≡ padded a ks
  pub points : p₁ ≡ padded b ps
  pub weights : w₁ ≡ padded c ws
