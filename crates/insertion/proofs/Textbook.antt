-- One knot more is the scheme of exact's specs/Edit at doubles, number by number: Boehm's insertion with each operation rounded once. Assumes nothing.
use Prim.Native.Nat.{ℕ, ◌+◌, ◌-◌}
use mathlib.Core.Bool.{Bool, true, false, cond}
use mathlib.Core.Path.{◌≡◌, refl, ◌∙◌, ap, ap₂}
use mathlib.Core.List.{List}
use native.Mathlib.Numerals.{add-one}
use lib.Dec.{leb, eqb}
use lib.Ieee.{Float, binary64, add, div, of_bits}
use Rattle.exact.specs.Boehm.{refined}
use Rattle.exact.specs.Edit.{mix_of, blend_by, insert_by}
use Rattle.doubles.specs.Run.{at, val_at}
use Rattle.doubles.specs.Value.{val}
use Rattle.basis.specs.Floats.{floats}
use Rattle.runs.specs.Scale.{weight_of}
use Rattle.runs.specs.Point.{point_of}
use Rattle.runs.specs.declared.vector.Vector.{Vector}
use Rattle.edits.specs.Control.{share_of, lift_of, blend_of, lower_of}
use Rattle.edits.specs.Rows.{lift_at}
use Rattle.insertion.specs.Insert.{blend_at, knot_at}
use Rattle.edits.specs.declared.control.Control.{Control}

module _ (f : Control → Float) where
  pub chosen : (b : Bool) {c d : Control} {x y : Float} → f c ≡ x → f d ≡ y → f (cond b c d) ≡ cond b x y
  chosen true e g = e
  chosen false e g = g

  -- a number of a control that is blended as such
  number : ((a b : Control) (s : Float) → f (blend_of a b s) ≡ mix_of floats (f a) (f b) s)
      → (p k s : ℕ) (t : Float) (ks : List Float) (h : ℕ → Control) (i : ℕ) → f (blend_at p k s t ks h i) ≡ blend_by floats p k s t (at ks) (λ j. f (h j)) i
  unfolding blend_at blend_by share_of
  number m p k s t ks h i = chosen (leb i (k - p)) refl (chosen (leb i (k - s)) (m (h (i - 1)) (h i) (share_of t (at ks i) (at ks (i + p)))) refl)

module _ (p k s : ℕ) (t : Float) (ks : List Float) (h : ℕ → Control) (i : ℕ) where
  pub blend-x : (blend_at p k s t ks h i).x ≡ blend_by floats p k s t (at ks) (λ j. (h j).x) i
  unfolding blend_of of_bits
  blend-x = number (λ c. c.x) (λ a b r. refl) p k s t ks h i

  pub blend-y : (blend_at p k s t ks h i).y ≡ blend_by floats p k s t (at ks) (λ j. (h j).y) i
  unfolding blend_of of_bits
  blend-y = number (λ c. c.y) (λ a b r. refl) p k s t ks h i

  pub blend-z : (blend_at p k s t ks h i).z ≡ blend_by floats p k s t (at ks) (λ j. (h j).z) i
  unfolding blend_of of_bits
  blend-z = number (λ c. c.z) (λ a b r. refl) p k s t ks h i

  pub blend-w : (blend_at p k s t ks h i).w ≡ blend_by floats p k s t (at ks) (λ j. (h j).w) i
  unfolding blend_of of_bits
  blend-w = number (λ c. c.w) (λ a b r. refl) p k s t ks h i

-- the points: relative to o, with weights over m, and back
module _ (p k s : ℕ) (t : Float) (ks : List Float) (m : Float) (o : Vector) (ps : List Float) (g : Bool) (ws : List Float) (i : ℕ) where
  abbrev lifted : ℕ → Control
  lifted = lift_at m o ps g ws

  pub point-x : (lower_of o (blend_at p k s t ks lifted i)).x ≡ insert_by floats p k s t (at ks) o.x (weight_of g ws m) (λ j. (point_of ps j).x) i
  unfolding lower_of lift_at lift_of insert_by
  point-x = ap₂ (λ a b. add binary64 o.x (div binary64 a b)) (blend-x p k s t ks lifted i) (blend-w p k s t ks lifted i)

  pub point-y : (lower_of o (blend_at p k s t ks lifted i)).y ≡ insert_by floats p k s t (at ks) o.y (weight_of g ws m) (λ j. (point_of ps j).y) i
  unfolding lower_of lift_at lift_of insert_by
  point-y = ap₂ (λ a b. add binary64 o.y (div binary64 a b)) (blend-y p k s t ks lifted i) (blend-w p k s t ks lifted i)

  pub point-z : (lower_of o (blend_at p k s t ks lifted i)).z ≡ insert_by floats p k s t (at ks) o.z (weight_of g ws m) (λ j. (point_of ps j).z) i
  unfolding lower_of lift_at lift_of insert_by
  point-z = ap₂ (λ a b. add binary64 o.z (div binary64 a b)) (blend-z p k s t ks lifted i) (blend-w p k s t ks lifted i)

-- the knots are not rounded
pub knot-refined : (k : ℕ) (t : Float) (ks : List Float) (j : ℕ) → val (knot_at k t ks j) ≡ refined (val_at ks) (val t) k j
unfolding knot_at refined
knot-refined k t ks j = value (leb j k) _ _
    ∙ ap (cond (leb j k) (val_at ks j)) (value (eqb j (k + 1)) t (at ks (j - 1)) ∙ ap (λ n. cond (eqb j n) (val t) (val_at ks (j - 1))) (add-one k))
  where
    value : (b : Bool) (x y : Float) → val (cond b x y) ≡ cond b (val x) (val y)
    value true x y = refl
    value false x y = refl
