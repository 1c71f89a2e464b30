-- The point and two derivatives of a curve, and the answers of `eval2` and of its step `eval2_at`, by the mode.
-- Assumes nothing.
use Rattle.std.specs.Prelude.{ℕ, ◌-◌, Bool, true, cond, ◌&&◌, List, eqb, Float, Result, Ok, Err}
use Rattle.std.specs.Float.{binary64}
use Rattle.std.specs.Float.Ieee.{sub, mul, div, of_bits}
use Rattle.knots.specs.Refusal.{refuse}
use Rattle.knots.specs.declared.refusal.Reason.TheVariants.{SecondNotFinite}
use Rattle.knots.specs.Span.{span_of, searched}
use Rattle.knots.specs.Curve.{count_of}
use Rattle.knots.specs.declared.refusal.Refusal.{Refusal}
use Rattle.runs.specs.Point.{point_of, finite_vector}
use Rattle.evaluate.specs.Curve.{point_from, slope_part, slope_from, active_sums, looked, step_refusal, eval_refusal}
use Rattle.runs.specs.declared.vector.Vector.{Vector}
use Rattle.evaluate.specs.declared.sums.Sums.{Sums}
use Rattle.evaluate.specs.declared.curve2.CurveDerivs2.{CurveDerivs2}

-- the second derivative of a coordinate: ((e - c f) - s (2 v)) / w, where c is the point's, s the first derivative's
abbrev pub bend_part : Float → Float → Float → Float → Float → Float → Float
bend_part a w d v e f =
    div binary64
    (sub binary64 (sub binary64 e (mul binary64 (div binary64 a w) f)) (mul binary64 (slope_part a w d v) (mul binary64 (of_bits binary64 0x4000_0000_0000_0000) v))) w

unfoldable pub quotient2 : Vector → Sums → Sums → Sums → CurveDerivs2
quotient2 o a d e = record {
  point = point_from o a;
  d1 = slope_from a d;
  d2 = record {
    x = bend_part a.x a.w d.x d.w e.x e.w;
    y = bend_part a.y a.w d.y d.w e.y e.w;
    z = bend_part a.z a.w d.z d.w e.z e.w;
  };
}

-- at v in span s
unfoldable pub curve2_of : ℕ → List Float → List Float → Bool → List Float → ℕ → Float → CurveDerivs2
curve2_of p ks ps g ws s v =
    quotient2 (point_of ps (s - p)) (active_sums p ks ps g ws true s v 0) (active_sums p ks ps g ws true s v 1) (active_sums p ks ps g ws true s v 2)

-- all nine numbers are finite
unfoldable pub finite2 : CurveDerivs2 → Bool
finite2 r = finite_vector r.point && (finite_vector r.d1 && finite_vector r.d2)

-- 21 where they are not
unfoldable pub told2 : CurveDerivs2 → Result CurveDerivs2 Refusal
told2 d = cond (finite2 d) (Ok d) (Err (refuse SecondNotFinite))

abbrev pub answer2 : Refusal → CurveDerivs2 → Result CurveDerivs2 Refusal
answer2 r d = cond (eqb r.number 0) (told2 d) (Err r)

-- on any runs: the span is what the search finds
unfoldable pub found2_of : ℕ → List Float → List Float → Bool → List Float → Float → CurveDerivs2
found2_of p ks ps g ws t = curve2_of p ks ps g ws (searched p (count_of ps) ks (looked p ks ps t)) (looked p ks ps t)

unfoldable pub eval2_at_of : Bool → ℕ → List Float → List Float → Bool → List Float → Float → Result CurveDerivs2 Refusal
eval2_at_of c p ks ps g ws t = answer2 (step_refusal c p ks ps g ws t) (found2_of p ks ps g ws t)

unfoldable pub eval2_of : Bool → ℕ → List Float → List Float → Bool → List Float → Float → Result CurveDerivs2 Refusal
eval2_of c p ks ps g ws t = answer2 (eval_refusal c p ks ps g ws t) (curve2_of p ks ps g ws (span_of p (count_of ps) ks (looked p ks ps t)) (looked p ks ps t))
