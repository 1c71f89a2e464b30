-- A segment raised is the scheme of exact's specs/Edit at doubles, number by number: Bernstein's raise with each operation rounded once. Assumes nothing.
use Prim.Native.Nat.{ℕ, zero, suc, ◌+◌, ◌-◌}
use mathlib.Core.Bool.{Bool}
use mathlib.Core.Path.{◌≡◌, refl, ◌∙◌, ap, ap₂, fun_ext}
use mathlib.Core.List.{List}
use lib.Dec.{leb, eqb}
use lib.Ieee.{Float, binary64, add, div, of_bits}
use Rattle.exact.specs.Edit.{mix_of, raise_by, raise_to_by, elevate_by}
use Rattle.basis.specs.Floats.{floats}
use Rattle.runs.specs.Scale.{weight_of}
use Rattle.runs.specs.Point.{point_of}
use Rattle.runs.specs.declared.vector.Vector.{Vector}
use Rattle.edits.specs.Control.{lift_of, blend_of, lower_of}
use Rattle.edits.specs.Rows.{lift_at}
use Rattle.edits.specs.declared.control.Control.{Control}
use Rattle.insertion.proofs.Textbook.{chosen}
use Rattle.elevation.specs.Raise.{raise_share, raise_once, raise_times}

-- a number of a control that is blended as such
module _ (f : Control → Float) (m : (a b : Control) (s : Float) → f (blend_of a b s) ≡ mix_of floats (f a) (f b) s) where
  once : (d : ℕ) (h : ℕ → Control) (i : ℕ) → f (raise_once d h i) ≡ raise_by floats d (λ j. f (h j)) i
  unfolding raise_once raise_by raise_share
  once d h i = chosen f (eqb i 0) refl (chosen f (leb i d) (m (h i) (h (i - 1)) (raise_share d i)) refl)

  times : (d n : ℕ) (h : ℕ → Control) (i : ℕ) → f (raise_times d n h i) ≡ raise_to_by floats d n (λ j. f (h j)) i
  unfolding raise_times raise_to_by
  times d zero h i = refl
  times d (suc n) h i = once (d + n) (raise_times d n h) i ∙ ap (λ (k : ℕ → Float). raise_by floats (d + n) k i) (fun_ext (λ j. times d n h j))

module _ (d n : ℕ) (h : ℕ → Control) (i : ℕ) where
  pub raise-x : (raise_times d n h i).x ≡ raise_to_by floats d n (λ j. (h j).x) i
  unfolding blend_of of_bits
  raise-x = times (λ c. c.x) (λ a b r. refl) d n h i

  pub raise-y : (raise_times d n h i).y ≡ raise_to_by floats d n (λ j. (h j).y) i
  unfolding blend_of of_bits
  raise-y = times (λ c. c.y) (λ a b r. refl) d n h i

  pub raise-z : (raise_times d n h i).z ≡ raise_to_by floats d n (λ j. (h j).z) i
  unfolding blend_of of_bits
  raise-z = times (λ c. c.z) (λ a b r. refl) d n h i

  pub raise-w : (raise_times d n h i).w ≡ raise_to_by floats d n (λ j. (h j).w) i
  unfolding blend_of of_bits
  raise-w = times (λ c. c.w) (λ a b r. refl) d n h i

-- the points of the segment from control b on: relative to o, with weights over m, and back
module _ (d n b : ℕ) (m : Float) (o : Vector) (ps : List Float) (g : Bool) (ws : List Float) (i : ℕ) where
  abbrev segment : ℕ → Control
  segment j = lift_at m o ps g ws (b + j)

  pub point-x : (lower_of o (raise_times d n segment i)).x ≡ elevate_by floats d n o.x (λ j. weight_of g ws m (b + j)) (λ j. (point_of ps (b + j)).x) i
  unfolding lower_of lift_at lift_of elevate_by
  point-x = ap₂ (λ a b. add binary64 o.x (div binary64 a b)) (raise-x d n segment i) (raise-w d n segment i)

  pub point-y : (lower_of o (raise_times d n segment i)).y ≡ elevate_by floats d n o.y (λ j. weight_of g ws m (b + j)) (λ j. (point_of ps (b + j)).y) i
  unfolding lower_of lift_at lift_of elevate_by
  point-y = ap₂ (λ a b. add binary64 o.y (div binary64 a b)) (raise-y d n segment i) (raise-w d n segment i)

  pub point-z : (lower_of o (raise_times d n segment i)).z ≡ elevate_by floats d n o.z (λ j. weight_of g ws m (b + j)) (λ j. (point_of ps (b + j)).z) i
  unfolding lower_of lift_at lift_of elevate_by
  point-z = ap₂ (λ a b. add binary64 o.z (div binary64 a b)) (raise-z d n segment i) (raise-w d n segment i)
