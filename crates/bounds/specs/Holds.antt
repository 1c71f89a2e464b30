-- The promise of a bound: at every fraction of its closed range the exact point and its exact first derivatives, on the span taken, lie in the intervals; and 28 and 29 are given by none.
-- The exact points are a parameter: P k i is coordinate k of point i.
use Rattle.std.specs.Prelude.{ℕ, ◌+◌, ◌*◌, Bool, List, ◌≡◌, Float, Result, Ok, Err}
use Rattle.exact.specs.Rational.{ℚ, q0, ◌≤q◌}
use Rattle.exact.specs.Spline.{exact, dexact}
use Rattle.exact.specs.Surface.{exact₂, dexact₂u, dexact₂v}
use Rattle.doubles.specs.Value.{val}
use Rattle.doubles.specs.Run.{val_at}
use Rattle.interval.specs.Inside.{Inside}
use Rattle.knots.specs.Curve.{count_of}
use Rattle.knots.specs.Refusal.{refuse}
use Rattle.knots.specs.declared.refusal.Reason.TheVariants.{QuotientNone, WeightsApart}
use Rattle.ranges.specs.Range.{span_over}
use Rattle.runs.specs.Fraction.{weight_value, coordinate_value}
use Rattle.jets.specs.Three.{Three}
use Rattle.bounds.specs.declared.answer.Triple.{Triple}
use Rattle.bounds.specs.declared.answer.NurbsBounds.{NurbsBounds}
use Rattle.knots.specs.declared.refusal.Refusal.{Refusal}

-- three intervals hold three numbers: x, y and z
pub record Holding (b : Triple) (e : ℕ → ℚ) : Type 0 where
  pub x : Inside b.x (e 0)
  pub y : Inside b.y (e 1)
  pub z : Inside b.z (e 2)

-- bounds hold a point with its derivatives along u and v, coordinate by coordinate
pub record Enclosing (b : NurbsBounds) (e : ℕ → Three) : Type 0 where
  pub point : Holding b.point (λ k. (e k).value)
  pub du : Holding b.du (λ k. (e k).du)
  pub dv : Holding b.dv (λ k. (e k).dv)

-- where an answer is bounds, they hold it
abbrev pub Boxed : Result NurbsBounds Refusal → (ℕ → Three) → Type 0
Boxed (Ok b) e = Enclosing b e
Boxed (Err r) e = Unit

-- ---- a curve
-- at t on span s: an exact coordinate and its derivative; 0 in the other direction
abbrev pub at-t : ℕ → List Float → ℕ → Bool → List Float → ℕ → ℚ → (ℕ → ℚ) → Three
at-t p ks n r ws s t P = record { value = exact (val_at ks) t s p n (weight_value r ws) P; du = dexact (val_at ks) t s p n (weight_value r ws) P; dv = q0 }

-- at every fraction of the closed range, on span s
abbrev pub HoldsOn : ℕ → ℕ → List Float → ℕ → Bool → List Float → Float → Float → (ℕ → ℕ → ℚ) → Result NurbsBounds Refusal → Type 0
HoldsOn p s ks n r ws lo hi P A = (t : ℚ) → val lo ≤q t → t ≤q val hi → Boxed A (λ k. at-t p ks n r ws s t (P k))

-- on the span that bound_curve takes, of its own points
abbrev pub Holds : ℕ → List Float → List Float → Bool → List Float → Float → Float → Result NurbsBounds Refusal → Type 0
Holds p ks ps r ws lo hi = HoldsOn p (span_over p (count_of ps) ks lo hi) ks (count_of ps) r ws lo hi (coordinate_value ps)

-- the same of an answer for the point alone
abbrev pub PointBoxed : Result Triple Refusal → (ℕ → ℚ) → Type 0
PointBoxed (Ok b) e = Holding b e
PointBoxed (Err r) e = Unit

abbrev pub PointHoldsOn : ℕ → ℕ → List Float → ℕ → Bool → List Float → Float → Float → (ℕ → ℕ → ℚ) → Result Triple Refusal → Type 0
PointHoldsOn p s ks n r ws lo hi P A = (t : ℚ) → val lo ≤q t → t ≤q val hi → PointBoxed A (λ k. exact (val_at ks) t s p n (weight_value r ws) (P k))

abbrev pub PointHolds : ℕ → List Float → List Float → Bool → List Float → Float → Float → Result Triple Refusal → Type 0
PointHolds p ks ps r ws lo hi = PointHoldsOn p (span_over p (count_of ps) ks lo hi) ks (count_of ps) r ws lo hi (coordinate_value ps)

-- ---- a surface
-- its points row by row, nv to a row
abbrev pub grid : ℕ → (ℕ → ℚ) → ℕ → ℕ → ℚ
grid nv P i j = P (i * nv + j)

module _ (p q us vs : ℕ) (uk vk : List Float) (nu nv : ℕ) (r : Bool) (ws : List Float) where
  -- at u and v on spans us and vs: an exact coordinate and its two derivatives
  abbrev pub at-uv : ℚ → ℚ → (ℕ → ℚ) → Three
  at-uv u v P = let w = grid nv (weight_value r ws) in record {
    value = exact₂ (val_at uk) u us p nu (val_at vk) v vs q nv w (grid nv P);
    du = dexact₂u (val_at uk) u us p nu (val_at vk) v vs q nv w (grid nv P);
    dv = dexact₂v (val_at uk) u us p nu (val_at vk) v vs q nv w (grid nv P);
  }

  -- at every pair of fractions of the closed ranges
  abbrev pub HoldsOver : Float → Float → Float → Float → (ℕ → ℕ → ℚ) → Result NurbsBounds Refusal → Type 0
  HoldsOver ulo uhi vlo vhi P A = (u v : ℚ) → val ulo ≤q u → u ≤q val uhi → val vlo ≤q v → v ≤q val vhi → Boxed A (λ k. at-uv u v (P k))

-- on the spans that bound_surface takes, of its own points
abbrev pub SurfaceHolds : ℕ → ℕ → List Float → List Float → ℕ → ℕ → List Float → Bool → List Float → Float → Float → Float → Float → Result NurbsBounds Refusal → Type 0
SurfaceHolds p q uk vk nu nv ps r ws ulo uhi vlo vhi =
    HoldsOver p q (span_over p nu uk ulo uhi) (span_over q nv vk vlo vhi) uk vk nu nv r ws ulo uhi vlo vhi (coordinate_value ps)

-- ---- a number that is neither 28 nor 29
pub record NotIdle (n : ℕ) : Type 0 where
  pub not-28 : n ≡ (refuse QuotientNone).number → ⊥
  pub not-29 : n ≡ (refuse WeightsApart).number → ⊥
