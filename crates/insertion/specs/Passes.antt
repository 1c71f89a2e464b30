-- What the passes of the code promise each other. No contract of a public call names any of it.
-- Assumes nothing.
use Rattle.std.specs.Prelude.{ℕ, ◌+◌, ◌-◌, ◌<◌, Bool, not, cond, ◌≡◌, List, leb, Float, Result, Ok, Err}
use Rattle.doubles.specs.Run.{at}
use Rattle.knots.specs.Below.{all_below, off_at}
use Rattle.knots.specs.Refusal.{refuse, accepted, placed, checked}
use Rattle.knots.specs.declared.refusal.Reason.TheVariants.{EditBad, PointNotFinite}
use Rattle.knots.specs.declared.refusal.Refusal.{Refusal}
use Rattle.runs.specs.Point.{finite_vector}
use Rattle.runs.specs.declared.vector.Vector.{Vector}
use Rattle.edits.specs.Outcome.{Outcome, gives, refuses}
use Rattle.edits.specs.Control.{is_blended, share_of, blend_of, lower_of}
use Rattle.edits.specs.Passes.{Stands, row_of, kept_row, stored, Untouched}
use Rattle.edits.specs.declared.control.Control.{Control}
use Rattle.insertion.specs.Insert.{more_knots, more_points, more_weights, form_refusal, inserted_knots, inserted_points, inserted_weights, insert_refusal}

-- control i with a knot more, of the controls before it and at it; U is the knots
unfoldable pub blend_one : ℕ → ℕ → ℕ → Float → (ℕ → Float) → Control → Control → ℕ → Control
blend_one p k s t U before here i = cond (leb i (k - p)) here (cond (leb i (k - s)) (blend_of before here (share_of t (U i) (U (i + p)))) before)

-- 20 where a control of m is one for it, else 8 at the first point with a coordinate that is not finite
unfoldable pub lower_refusal : Vector → (ℕ → Control) → ℕ → Refusal
lower_refusal o h m =
    cond (not (all_below (λ i. is_blended (h i)) m)) (refuse EditBad)
    (cond (not (all_below (λ i. finite_vector (lower_of o (h i))) m)) (placed (off_at (λ i. finite_vector (lower_of o (h i))) m) (refuse PointNotFinite)) accepted)

-- r is that refusal. Where it is none, the points and weights stand in the run
pub record LowerDone (o : Vector) (g : Bool) (h : ℕ → Control) (m : ℕ) (r₀ r₁ : List Float) (r : Result Unit Refusal) : Type 0 where
  pub answer : r ≡ checked (lower_refusal o h m)
  pub rows : r ≡ Ok tt → (i : ℕ) → i < m → row_of g r₁ i ≡ stored g (kept_row (lower_of o (h i)) (h i).w)
  pub rest : (j : ℕ) → Untouched g m j → at r₁ j ≡ at r₀ j

-- where t goes, as in the definition of one insertion: r is the refusal. Where it is none, the curve that is formed stands in the run
pub record Formed (a p n k s : ℕ) (t : Float) (ks ps : List Float) (g : Bool) (ws w₀ w₁ : List Float) (r : Result Unit Refusal) : Type 0 where
  pub refusal : r ≡ checked (form_refusal p n k s t ks ps g ws)
  pub holds : r ≡ Ok tt → Stands a p (n + 1) g (more_knots k t ks) (more_points p n k s t ks ps g ws) (more_weights p n k s t ks ps g ws) w₀ w₁

-- the same of one insertion
pub record Inserted (a p n : ℕ) (ks ps : List Float) (g : Bool) (ws : List Float) (t : Float) (w₀ w₁ : List Float) (r : Result Unit Refusal) : Type 0 where
  pub refusal : r ≡ checked (insert_refusal p n ks ps g ws t)
  pub holds : r ≡ Ok tt → Stands a p (n + 1) g (inserted_knots p n ks ps g ws t) (inserted_points p n ks ps g ws t) (inserted_weights p n ks ps g ws t) w₀ w₁

-- the same of a list, n points in the end
unfoldable pub ListMeets : ℕ → ℕ → ℕ → Bool → List Float → Outcome → List Float → Result Unit Refusal → Type 0
ListMeets a p n g w₀ (gives ks ps ws) w₁ r = (r ≡ Ok tt) × Stands a p n g ks ps ws w₀ w₁
ListMeets a p n g w₀ (refuses x) w₁ r = r ≡ Err x
