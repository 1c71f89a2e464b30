-- The lines of the box lister and of the speed lister: a span, its knots, and an interval for each coordinate of the point or of du. A text is its bytes in ASCII.
-- Assumes nothing.
use Rattle.std.specs.Prelude.{Result}
use Rattle.bounds.specs.declared.answer.NurbsBounds.{NurbsBounds}
use Rattle.knots.specs.declared.refusal.Refusal.{Refusal}
use Rattle.std.specs.Prelude.{ℕ, ◌+◌, Bool, true, false, cond, List, [], ◌∷◌, ◌++◌, eqb, length, Float}
use Rattle.doubles.specs.Run.{at}
use Rattle.interval.specs.declared.Interval.{Interval}
use Rattle.bounds.specs.Curve.{bound_at}
use Rattle.bounds.specs.Numbers.{bounded_refusal, bounded_values}
use Rattle.bounds.specs.Eighteen.{triple_by}
use Rattle.bounds.specs.declared.answer.Triple.{Triple}
use Rattle.decimals.specs.Text.{decimal, spaced_bits}
use Rattle.listing.specs.Text.{refused_word}
use Rattle.decimals.specs.Fixed.{fixed}

-- the bits of both ends
unfoldable pub spaced_ends : Interval → List ℕ
spaced_ends i = spaced_bits i.lo ++ spaced_bits i.hi

-- the low end rounded down and the high end rounded up
unfoldable pub spaced_decimals : Interval → List ℕ
spaced_decimals i = 32 ∷ (fixed false i.lo ++ (32 ∷ fixed true i.hi))

-- x, y and z: a text of each
abbrev pub each : (Interval → List ℕ) → Triple → List ℕ
each text t = text t.x ++ (text t.y ++ text t.z)

-- the intervals of the point, or where speeds are asked for those of du, which stand six numbers behind it: by their bits, then as decimals; or, where the bound is refused and has no values, ` refused ` and the number
unfoldable pub outcome : Bool → Result NurbsBounds Refusal → List ℕ
outcome speeds a = let vs = bounded_values a in let t = triple_by (at vs) (cond speeds 6 0) in cond (eqb (length vs) 0) (32 ∷ (refused_word ++ decimal (bounded_refusal a).number)) (each spaced_ends t ++ each spaced_decimals t)

-- the line of the span s between two knots
unfoldable pub box_line : Bool → ℕ → Float → Float → Result NurbsBounds Refusal → List ℕ
box_line speeds s lower upper a = decimal s ++ (spaced_bits lower ++ (spaced_bits upper ++ (outcome speeds a ++ (10 ∷ []))))

-- that of a curve's span s, bounded over its own closed range
unfoldable pub box_of : Bool → ℕ → List Float → List Float → Bool → List Float → ℕ → List ℕ
box_of speeds p ks ps r ws s = box_line speeds s (at ks s) (at ks (s + 1)) (bound_at p s ks ps r ws (at ks s) (at ks (s + 1)))
