-- The point and the first partial derivatives of a surface, and the answers of `eval_surface` and of its step `eval_surface_at`, by the mode.
-- Along u a surface has the degree p, knots us and m points; along v q, vs and n.
-- Assumes nothing.
use Rattle.std.specs.Prelude.{ℕ, zero, suc, ◌+◌, ◌-◌, ◌*◌, ◌≤◌, ◌<◌, Bool, false, cond, List, eqb, Float, Result, Ok, Err}
use Rattle.std.specs.Float.{binary64}
use Rattle.std.specs.Float.Ieee.{mul}
use Rattle.exact.specs.Scheme.{ders_of}
use Rattle.doubles.specs.Run.{at}
use Rattle.doubles.specs.Value.{zero+, one+}
use Rattle.knots.specs.Refusal.{or_else}
use Rattle.knots.specs.Span.{clamped, domain_refusal, span_of, searched}
use Rattle.knots.specs.Surface.{surface_refusal}
use Rattle.knots.specs.declared.refusal.Refusal.{Refusal}
use Rattle.basis.specs.Floats.{floats}
use Rattle.basis.specs.Basis.{left_of, right_of}
use Rattle.knots.specs.Shape.{degree_refusal, surface_shape}
use Rattle.evaluate.specs.Controls.{no_sums, sums_from, row_term}
use Rattle.runs.specs.Larger.{largest_from}
use Rattle.runs.specs.Point.{point_of}
use Rattle.evaluate.specs.Curve.{point_from, slope_from}
use Rattle.runs.specs.declared.vector.Vector.{Vector}
use Rattle.evaluate.specs.declared.sums.Sums.{Sums}
use Rattle.evaluate.specs.declared.surface.SurfaceDerivs.{SurfaceDerivs}

-- the places of the p + 1 rows from row a on and the q + 1 columns from column b on lie below m, in a net of n columns
abbrev pub NetReach : ℕ → ℕ → ℕ → ℕ → ℕ → ℕ → Type 0
NetReach m n a p b q = (k : ℕ) → k ≤ p → (a + k) * n + b + q < m

-- the largest of the weights at c places of each of r rows
unfoldable pub net_largest : List Float → ℕ → ℕ → ℕ → ℕ → ℕ → Float
net_largest ws n a b c zero = zero+
net_largest ws n a b c (suc k) = largest_from (net_largest ws n a b c k) (λ l. at ws ((a + k) * n + b + l)) c

unfoldable pub net_scale : Bool → List Float → ℕ → ℕ → ℕ → ℕ → ℕ → Float
net_scale g ws n a b c r = cond g (net_largest ws n a b c r) one+

-- the sums over c points of each of r rows, row by row, relative to o, under f of the row times h of the column
unfoldable pub net_sums : List Float → Bool → List Float → Float → Vector → ℕ → ℕ → ℕ → (ℕ → Float) → (ℕ → Float) → ℕ → ℕ → Sums
net_sums ps g ws m o n a b f h c zero = no_sums
net_sums ps g ws m o n a b f h c (suc k) =
    sums_from (net_sums ps g ws m o n a b f h c k) (row_term false ps g ws m o ((a + k) * n + b) (λ l. mul binary64 (f k) (h l))) c

unfoldable pub surface_quotient : Vector → Sums → Sums → Sums → SurfaceDerivs
surface_quotient o a d e = record { point = point_from o a; du = slope_from a d; dv = slope_from a e }

module _ (p q : ℕ) (us vs : List Float) (n : ℕ) (ps : List Float) (g : Bool) (ws : List Float) (s t : ℕ) (u v : Float) where
  -- the sums at u in span s and v in span t, under derivatives i and j of the basis functions, relative to the first active point
  unfoldable pub active_net : ℕ → ℕ → Sums
  active_net i j =
      net_sums ps g ws (net_scale g ws n (s - p) (t - q) (q + 1) (p + 1)) (point_of ps ((s - p) * n + (t - q))) n (s - p) (t - q)
      (ders_of floats (left_of us s u) (right_of us s u) p i) (ders_of floats (left_of vs t v) (right_of vs t v) q j) (q + 1) (p + 1)

  unfoldable pub surface_of : SurfaceDerivs
  surface_of = surface_quotient (point_of ps ((s - p) * n + (t - q))) (active_net 0 0) (active_net 1 0) (active_net 0 1)

-- ---- refusals, by the mode
-- 31 of either direction
unfoldable pub degrees_refusal : ℕ → ℕ → Refusal
degrees_refusal p q = or_else (degree_refusal p) (degree_refusal q)

-- 31, then 12 and 43 of u, then 12 and 43 of v
unfoldable pub parameters_refusal : Bool → ℕ → ℕ → List Float → List Float → ℕ → ℕ → Float → Float → Refusal
parameters_refusal c p q us vs m n u v = or_else (degrees_refusal p q) (or_else (domain_refusal c p m us u) (domain_refusal c q n vs v))

module _ (c : Bool) (p q : ℕ) (us vs : List Float) (m n : ℕ) (ps : List Float) (g : Bool) (ws : List Float) (u v : Float) where
  -- of a step on a surface that was validated before, and of an evaluation
  unfoldable pub surface_step_refusal : Refusal
  surface_step_refusal = or_else (surface_shape p q us vs m n ps g ws) (parameters_refusal c p q us vs m n u v)

  unfoldable pub surface_eval_refusal : Refusal
  surface_eval_refusal = or_else (surface_refusal p q us vs m n ps g ws) (parameters_refusal c p q us vs m n u v)

-- ---- answers
abbrev pub surface_answer : Refusal → SurfaceDerivs → Result SurfaceDerivs Refusal
surface_answer r d = cond (eqb r.number 0) (Ok d) (Err r)

-- on any runs: the spans are what the search finds
unfoldable pub surface_found : ℕ → ℕ → List Float → List Float → ℕ → ℕ → List Float → Bool → List Float → Float → Float → SurfaceDerivs
surface_found p q us vs m n ps g ws u v =
    surface_of p q us vs n ps g ws (searched p m us (clamped p m us u)) (searched q n vs (clamped q n vs v)) (clamped p m us u) (clamped q n vs v)

module _ (c : Bool) (p q : ℕ) (us vs : List Float) (m n : ℕ) (ps : List Float) (g : Bool) (ws : List Float) (u v : Float) where
  unfoldable pub surface_at_of : Result SurfaceDerivs Refusal
  surface_at_of = surface_answer (surface_step_refusal c p q us vs m n ps g ws u v) (surface_found p q us vs m n ps g ws u v)

  unfoldable pub eval_surface_of : Result SurfaceDerivs Refusal
  eval_surface_of =
      surface_answer (surface_eval_refusal c p q us vs m n ps g ws u v)
      (surface_of p q us vs n ps g ws (span_of p m us (clamped p m us u)) (span_of q n vs (clamped q n vs v)) (clamped p m us u) (clamped q n vs v))
