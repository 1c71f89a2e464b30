-- The point and the first derivative of a curve, and the answers of `eval` and of its step `eval_at`, by the mode: it stands in the refusals alone.
-- Assumes nothing.
use Rattle.std.specs.Prelude.{ℕ, ◌+◌, ◌-◌, Bool, false, cond, List, eqb, Float, Result, Ok, Err}
use Rattle.std.specs.Float.{binary64}
use Rattle.std.specs.Float.Ieee.{add, sub, mul, div}
use Rattle.exact.specs.Scheme.{ders_of}
use Rattle.knots.specs.Refusal.{or_else}
use Rattle.knots.specs.Span.{clamped, domain_refusal, span_of, searched}
use Rattle.knots.specs.Curve.{count_of, curve_refusal}
use Rattle.knots.specs.declared.refusal.Refusal.{Refusal}
use Rattle.basis.specs.Floats.{floats}
use Rattle.basis.specs.Basis.{left_of, right_of}
use Rattle.knots.specs.Shape.{degree_refusal, curve_shape}
use Rattle.evaluate.specs.Controls.{scale_of, row_sums}
use Rattle.runs.specs.Point.{point_of}
use Rattle.runs.specs.declared.vector.Vector.{Vector}
use Rattle.evaluate.specs.declared.sums.Sums.{Sums}
use Rattle.evaluate.specs.declared.curve.CurveDerivs.{CurveDerivs}

-- a point relative to o, and its derivative by the quotient rule, coordinate by coordinate
abbrev pub point_part : Float → Float → Float → Float
point_part o a w = add binary64 o (div binary64 a w)

abbrev pub slope_part : Float → Float → Float → Float → Float
slope_part a w d v = div binary64 (sub binary64 d (mul binary64 (div binary64 a w) v)) w

abbrev pub point_from : Vector → Sums → Vector
point_from o a = record { x = point_part o.x a.x a.w; y = point_part o.y a.y a.w; z = point_part o.z a.z a.w }

abbrev pub slope_from : Sums → Sums → Vector
slope_from a d = record { x = slope_part a.x a.w d.x d.w; y = slope_part a.y a.w d.y d.w; z = slope_part a.z a.w d.z d.w }

unfoldable pub quotient : Vector → Sums → Sums → CurveDerivs
quotient o a d = record { point = point_from o a; d1 = slope_from a d }

module _ (p : ℕ) (ks ps : List Float) (g : Bool) (ws : List Float) where
  -- the sums at v in span s, under derivative k of the basis functions
  unfoldable pub active_sums : Bool → ℕ → Float → ℕ → Sums
  active_sums two s v k = row_sums two ps g ws (scale_of g ws (s - p) (p + 1)) (s - p) (ders_of floats (left_of ks s v) (right_of ks s v) p k) (p + 1)

  -- the point and the derivative at v in span s
  unfoldable pub curve_of : ℕ → Float → CurveDerivs
  curve_of s v = quotient (point_of ps (s - p)) (active_sums false s v 0) (active_sums false s v 1)

-- ---- refusals, by the mode
-- 31, 12, 43
unfoldable pub parameter_refusal : Bool → ℕ → ℕ → List Float → Float → Refusal
parameter_refusal c p n ks t = or_else (degree_refusal p) (domain_refusal c p n ks t)

-- of a step on a curve that was validated before, and of an evaluation
unfoldable pub step_refusal : Bool → ℕ → List Float → List Float → Bool → List Float → Float → Refusal
step_refusal c p ks ps g ws t = or_else (curve_shape p ks ps g ws) (parameter_refusal c p (count_of ps) ks t)

unfoldable pub eval_refusal : Bool → ℕ → List Float → List Float → Bool → List Float → Float → Refusal
eval_refusal c p ks ps g ws t = or_else (curve_refusal p ks ps g ws) (parameter_refusal c p (count_of ps) ks t)

-- ---- answers
abbrev pub answer : Refusal → CurveDerivs → Result CurveDerivs Refusal
answer r d = cond (eqb r.number 0) (Ok d) (Err r)

-- the parameter that is looked up
abbrev pub looked : ℕ → List Float → List Float → Float → Float
looked p ks ps t = clamped p (count_of ps) ks t

-- on any runs: the span is what the search finds
unfoldable pub found_of : ℕ → List Float → List Float → Bool → List Float → Float → CurveDerivs
found_of p ks ps g ws t = curve_of p ks ps g ws (searched p (count_of ps) ks (looked p ks ps t)) (looked p ks ps t)

unfoldable pub eval_at_of : Bool → ℕ → List Float → List Float → Bool → List Float → Float → Result CurveDerivs Refusal
eval_at_of c p ks ps g ws t = answer (step_refusal c p ks ps g ws t) (found_of p ks ps g ws t)

unfoldable pub eval_of : Bool → ℕ → List Float → List Float → Bool → List Float → Float → Result CurveDerivs Refusal
eval_of c p ks ps g ws t = answer (eval_refusal c p ks ps g ws t) (curve_of p ks ps g ws (span_of p (count_of ps) ks (looked p ks ps t)) (looked p ks ps t))
