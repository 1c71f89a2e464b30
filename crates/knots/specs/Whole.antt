-- A curve or a surface as one value, for contracts: what a definition says of its parts.
use Rattle.std.specs.Prelude.{ℕ, Bool, List, Float}
use Rattle.knots.specs.declared.curve.Curve.{Curve}
use Rattle.knots.specs.declared.surface.Surface.{Surface}

-- its degree, knots, points, whether weights are given, and weights
abbrev pub on {ℓ} : {A : Type ℓ} → Curve → (ℕ → List Float → List Float → Bool → List Float → A) → A
on c f = f c.degree c.knots.now c.points.now c.rational c.weights.now

-- its degrees, knots and counts of points, along u and along v each, its points, whether weights are given, and weights
abbrev pub across {ℓ} : {A : Type ℓ} → Surface → (ℕ → ℕ → List Float → List Float → ℕ → ℕ → List Float → Bool → List Float → A) → A
across s f = f s.u_degree s.v_degree s.u_knots.now s.v_knots.now s.u_count s.v_count s.points.now s.rational s.weights.now
