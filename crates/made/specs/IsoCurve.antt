-- What `iso_curve` answers and leaves in the lent runs.
-- Assumes nothing.
use Rattle.std.specs.Prelude.{ℕ, ◌+◌, ◌-◌, ◌*◌, Bool, true, false, not, ◌||◌, cond, ◌≡◌, List, Float, Result, Ok}
use Rattle.std.specs.Float.Ieee.Scale.{finite}
use Rattle.exact.specs.Scheme.{ders_of}
use Rattle.knots.specs.Below.{all_below}
use Rattle.knots.specs.Refusal.{refuse, or_else, checked}
use Rattle.knots.specs.declared.refusal.Reason.TheVariants.{IsoOutside, IsoWeightBad}
use Rattle.knots.specs.Span.{outside, span_of}
use Rattle.knots.specs.Curve.{is_weight, formed_refusal}
use Rattle.knots.specs.Surface.{surface_refusal}
use Rattle.knots.specs.declared.refusal.Refusal.{Refusal}
use Rattle.basis.specs.Floats.{floats}
use Rattle.basis.specs.Basis.{left_of, right_of}
use Rattle.runs.specs.Tabulate.{tabulate}
use Rattle.knots.specs.Shape.{room_refusal}
use Rattle.evaluate.specs.Surface.{degrees_refusal}
use Rattle.runs.specs.Lent.{padded, left_in}
use Rattle.made.specs.Iso.{iso_sums, iso_coordinate, iso_weight}
use Rattle.evaluate.specs.declared.sums.Sums.{Sums}

-- the direction that is fixed, and the other, which is the isocurve's: degree, count of points, knots
pub record Side : Type 0 where
  pub degree : ℕ
  pub count : ℕ
  pub knots : List Float
  pub other-degree : ℕ
  pub other-count : ℕ
  pub other-knots : List Float

abbrev pub side_from : ℕ → ℕ → List Float → ℕ → ℕ → List Float → Side
side_from p m ks q n os = record { degree = p; count = m; knots = ks; other-degree = q; other-count = n; other-knots = os }

-- of a surface: u says that u is the fixed direction
abbrev pub side_of : Bool → ℕ → ℕ → List Float → List Float → ℕ → ℕ → Side
side_of true p q us vs m n = side_from p m us q n vs
side_of false p q us vs m n = side_from q n vs p m us

-- the homogeneous points at t, in a net of n columns
unfoldable pub hull_of : List Float → Bool → List Float → ℕ → Bool → Side → Float → ℕ → Sums
hull_of ps g ws n u s t =
    iso_sums ps g ws u n (span_of s.degree s.count s.knots t - s.degree)
    (ders_of floats (left_of s.knots (span_of s.degree s.count s.knots t) t) (right_of s.knots (span_of s.degree s.count s.knots t) t) s.degree 0)
    (s.degree + 1)

-- the points and the weights of an isocurve of c points
unfoldable pub iso_points : (ℕ → Sums) → ℕ → List Float
iso_points h c = tabulate (c * 3) (iso_coordinate h)

unfoldable pub iso_weights : (ℕ → Sums) → ℕ → List Float
iso_weights h c = tabulate c (iso_weight h)

-- ---- refusals
-- t is not finite, or lies outside the domain
unfoldable pub iso_outside : ℕ → ℕ → List Float → Float → Bool
iso_outside p n ks t = not (finite t) || outside p n ks t

-- 22, then 30 for outputs of a and b numbers of a curve of c points
unfoldable pub along_start : ℕ → ℕ → List Float → Float → ℕ → ℕ → ℕ → Refusal
along_start p n ks t c a b = cond (iso_outside p n ks t) (refuse IsoOutside) (or_else (room_refusal a (c * 3)) (room_refusal b c))

-- 23, then 1 to 10 of the curve that is formed
unfoldable pub along_refusal : (ℕ → Sums) → Side → Refusal
along_refusal h s =
    cond (not (all_below (λ k. is_weight (h k).w) s.other-count)) (refuse IsoWeightBad)
    (formed_refusal s.other-degree s.other-count s.other-knots (iso_points h s.other-count) true (iso_weights h s.other-count))

-- r answers that refusal. Where there is none, runs of a and b numbers hold the points and the weights
pub record AlongDone (h : ℕ → Sums) (s : Side) (a b : ℕ) (p₁ w₁ : List Float) (r : Result Unit Refusal) : Type 0 where
  pub refusal : r ≡ checked (along_refusal h s)
  pub points : r ≡ Ok tt → p₁ ≡ padded a (iso_points h s.other-count)
  pub weights : r ≡ Ok tt → w₁ ≡ padded b (iso_weights h s.other-count)

module _ (p q : ℕ) (us vs : List Float) (m n : ℕ) (ps : List Float) (g : Bool) (ws : List Float) (u : Bool) (t : Float) where
  abbrev pub iso_side : Side
  iso_side = side_of u p q us vs m n

  abbrev pub iso_hull : ℕ → Sums
  iso_hull = hull_of ps g ws n u iso_side t

  module _ (a b : ℕ) where
    -- the surface's refusal, 31, 22, 30
    unfoldable pub iso_start : Refusal
    iso_start =
        or_else (surface_refusal p q us vs m n ps g ws)
        (or_else (degrees_refusal p q) (along_start iso_side.degree iso_side.count iso_side.knots t iso_side.other-count a b))

    -- then 23, and 1 to 10 of the curve that is formed
    unfoldable pub iso_refusal : Refusal
    iso_refusal = or_else iso_start (along_refusal iso_hull iso_side)

  -- the answer r, and what is left in runs of a and b numbers
  pub record IsoMeets (a b : ℕ) (p₁ w₁ : List Float) (r : Result Unit Refusal) : Type 0 where
    pub refusal : r ≡ checked (iso_refusal a b)
    pub points : p₁ ≡ left_in (iso_refusal a b) a (iso_points iso_hull iso_side.other-count)
    pub weights : w₁ ≡ left_in (iso_refusal a b) b (iso_weights iso_hull iso_side.other-count)
