-- The controls of a curve, one by one: in homogeneous form, with a knot more, and back. h is a curve's controls by their places.
-- Assumes nothing.
use Rattle.std.specs.Prelude.{ℕ, zero, suc, ◌+◌, ◌/◌, ◌%◌, Bool, cond, List, Float}
use Rattle.doubles.specs.Value.{one+}
use Rattle.runs.specs.Scale.{weight_of}
use Rattle.runs.specs.Point.{point_of}
use Rattle.runs.specs.declared.vector.Vector.{Vector}
use Rattle.edits.specs.Control.{lift_of, lower_of}
use Rattle.edits.specs.Counts.{largest_of}
use Rattle.edits.specs.declared.control.Control.{Control}

-- what the weights are divided by: the largest of them, and 1.0 where none are given
unfoldable pub scale_of : Bool → List Float → Float
scale_of g ws = cond g (largest_of ws) one+

-- control i of points ps relative to o, its weight over the scale m
unfoldable pub lift_at : Float → Vector → List Float → Bool → List Float → ℕ → Control
lift_at m o ps g ws i = lift_of o (point_of ps i) (weight_of g ws m i)

abbrev pub lift_all : Vector → List Float → Bool → List Float → ℕ → Control
lift_all o ps g ws = lift_at (scale_of g ws) o ps g ws

-- coordinate j % 3 of point j / 3, and weight i
abbrev pub axis : ℕ → Vector → Float
axis zero v = v.x
axis (suc zero) v = v.y
axis (suc (suc k)) v = v.z

unfoldable pub lower_at : Vector → (ℕ → Control) → ℕ → Float
lower_at o h j = axis (j % 3) (lower_of o (h (j / 3)))

abbrev pub weight_in : (ℕ → Control) → ℕ → Float
weight_in h i = (h i).w

-- how many weights n points have
abbrev pub given : Bool → ℕ → ℕ
given g n = cond g n 0
