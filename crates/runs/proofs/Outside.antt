-- What is read and stored outside a run.
-- Assumes nothing.
use Prim.Native.Nat.{ℕ, zero, suc, ◌+◌, ◌*◌, ◌≤◌}
use mathlib.Core.Path.{◌≡◌, refl}
use mathlib.Core.List.{List, [], ◌∷◌}
use native.Mathlib.Nat.{add-zero, not-suc-le-zero, le_of_suc-le-suc}
use native.Mathlib.Omega.{arith}
use lib.ListN.{length}
use lib.Seq.{set_out}
use lib.Ieee.{Float, nan}
use Rattle.doubles.specs.Run.{at}
use Rattle.runs.specs.Point.{point_of, point_put}
use Rattle.runs.specs.declared.vector.Vector.{Vector}

pub at_out : (xs : List Float) (i : ℕ) → length xs ≤ i → at xs i ≡ nan
at_out [] i l = refl
at_out (x ∷ xs) zero l = absurd (not-suc-le-zero l)
at_out (x ∷ xs) (suc i) l = at_out xs i (le_of_suc-le-suc l)

-- a point by its three numbers
pub point-is : (ps : List Float) (i : ℕ) {x y z : Float} → x ≡ at ps (i * 3) → y ≡ at ps (i * 3 + 1) → z ≡ at ps (i * 3 + 2) → ◌≡◌ {A = Vector} (record { x = x; y = y; z = z }) (point_of ps i)
point-is ps i e f g = rw (e, f, g, add-zero)

-- a point none of whose coordinates is inside
pub point-out : (ps : List Float) (i : ℕ) → length ps ≤ i → point_of ps i ≡ record { x = nan; y = nan; z = nan }
point-out ps i l = simp (at_out ps (i * 3 + 0) (omega arith), at_out ps (i * 3 + 1) (omega arith), at_out ps (i * 3 + 2) (omega arith))

pub put-out : (ps : List Float) (i : ℕ) (v : Vector) → length ps ≤ i → point_put ps i v ≡ ps
put-out ps i v l = simp (set_out ps (i * 3) v.x (omega arith), set_out ps (i * 3 + 1) v.y (omega arith), set_out ps (i * 3 + 2) v.z (omega arith))
