-- What an edit answers and leaves in the lent runs.
-- Assumes nothing.
use Rattle.std.specs.Prelude.{ℕ, Bool, cond, ◌≡◌, List, [], Float, Result, Ok, Err}
use Rattle.knots.specs.declared.refusal.Refusal.{Refusal}
use Rattle.knots.specs.Clear.{zeros}
use Rattle.runs.specs.Lent.{padded}
use Rattle.edits.specs.Outcome.{Outcome, gives, refuses}
use Rattle.edits.specs.declared.answer.FormedCurve.{FormedCurve}

-- the weights that are given
abbrev pub given_of : Bool → List Float → List Float
given_of g ws = cond g ws []

-- an edit's answer, of degree p and n points where a curve is formed
abbrev pub answer_of : ℕ → ℕ → Outcome → Result FormedCurve Refusal
answer_of p n (gives ks ps ws) = Ok (record { degree = p; count = n })
answer_of p n (refuses r) = Err r

-- what is left in a run of n numbers for the knots, the points, the weights: +0.0 behind them, and alone after a refusal
abbrev pub knots_in : ℕ → Outcome → List Float
knots_in n (gives ks ps ws) = padded n ks
knots_in n (refuses r) = zeros n

abbrev pub points_in : ℕ → Outcome → List Float
points_in n (gives ks ps ws) = padded n ps
points_in n (refuses r) = zeros n

abbrev pub weights_in : ℕ → Outcome → List Float
weights_in n (gives ks ps ws) = padded n ws
weights_in n (refuses r) = zeros n

-- an edit of degree p and n points answers r, and leaves this in runs of a, b, c and d numbers
pub record EditMeets (p n : ℕ) (goal : Outcome) (a b c d : ℕ) (k₁ p₁ w₁ s₁ : List Float) (r : Result FormedCurve Refusal) : Type 0 where
  pub answer : r ≡ answer_of p n goal
  pub knots : k₁ ≡ knots_in a goal
  pub points : p₁ ≡ points_in b goal
  pub weights : w₁ ≡ weights_in c goal
  pub scratch : s₁ ≡ zeros d
