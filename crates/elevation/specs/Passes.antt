-- What the passes of the code promise each other. The contract of `elevate_degree` names none of it.
-- Assumes nothing.
use Rattle.std.specs.Prelude.{ℕ, ◌+◌, ◌-◌, ◌*◌, ◌<◌, Bool, true, not, cond, ◌≡◌, List, ◌++◌, length, take, drop, Float, Result, Ok, Err}
use Rattle.doubles.specs.Run.{at}
use Rattle.runs.specs.declared.vector.Vector.{Vector}
use Rattle.knots.specs.Refusal.{refuse, checked}
use Rattle.knots.specs.declared.refusal.Reason.TheVariants.{EditBad}
use Rattle.knots.specs.Curve.{formed_refusal}
use Rattle.knots.specs.declared.refusal.Refusal.{Refusal}
use Rattle.edits.specs.Outcome.{Outcome, gives, refuses}
use Rattle.edits.specs.Work.{knots_from, points_from, weights_from}
use Rattle.edits.specs.Rows.{given}
use Rattle.edits.specs.Whole.{given_of}
use Rattle.edits.specs.declared.control.Control.{Control}
use Rattle.elevation.specs.declared.inner.Breaks.{Breaks}
use Rattle.elevation.specs.Breaks.{breaks_from, full_count}
use Rattle.elevation.specs.Elevate.{raised_count, raised_knots, kept_all, all_blended, points_of, weights_of, raised_points, raised_weights, raised_refusal}

-- control i of a run of four numbers each
abbrev pub control_in : List Float → ℕ → Control
control_in xs i = record { x = at xs (i * 4); y = at xs (i * 4 + 1); z = at xs (i * 4 + 2); w = at xs (i * 4 + 3) }

-- a run d with l over it from place a on
unfoldable pub over : ℕ → List Float → List Float → List Float
over a l d = take a d ++ (l ++ drop (a + length l) d)

-- the first m controls of a run are those of h
pub record RowsAre (h : ℕ → Control) (m l : ℕ) (xs : List Float) : Type 0 where
  pub long : length xs ≡ l
  pub rows : (i : ℕ) → i < m → control_in xs i ≡ h i

-- those that an iterator has still to give
abbrev pub breaks_left : Breaks → List Float
breaks_left s = breaks_from s.knots.now s.from (s.n - s.from)

-- how many breaks there are, and how many of them are full
pub record BreaksCounted (p : ℕ) (ks bs : List Float) (b f : ℕ) : Type 0 where
  pub breaks : b ≡ length bs
  pub full : f ≡ full_count p ks bs

-- the outcome of the extraction: r is its refusal; where there is none, the curve of m points stands in a run, its knots from place a on
pub record Extracted (p : ℕ) (g : Bool) (m a : ℕ) (goal : Outcome) (x₁ : List Float) (r : Result Unit Refusal) : Type 0 where
  pub refused : (x : Refusal) → r ≡ Err x → goal ≡ refuses x
  pub given : r ≡ Ok tt → goal ≡ gives (knots_from a p m x₁) (points_from m x₁) (weights_from g m x₁)

-- r says that no control of l is one for 20; then their points and weights stand in two runs, those of control i at its place
pub record Put (o : Vector) (g : Bool) (l : List Control) (i : ℕ) (p₀ w₀ p₁ w₁ : List Float) (r : Bool) : Type 0 where
  pub answer : r ≡ all_blended l
  pub points : r ≡ true → p₁ ≡ over (i * 3) (points_of o l) p₀
  pub weights : r ≡ true → w₁ ≡ over (given g i) (given_of g (weights_of l)) w₀

-- 20, and 1 to 10 of the curve that is formed of controls h relative to o. Where there is no refusal, it stands at the front of three runs
module _ (p e n : ℕ) (ks bs : List Float) (g : Bool) (h : ℕ → Control) (o : Vector) where
  unfoldable pub join_refusal : Refusal
  join_refusal =
      cond (not (all_blended (kept_all p e ks h bs))) (refuse EditBad)
      (formed_refusal e (raised_count p e ks bs) (raised_knots p e n ks bs) (points_of o (kept_all p e ks h bs)) g (given_of g (weights_of (kept_all p e ks h bs))))

  pub record Joined (k₀ p₀ w₀ k₁ p₁ w₁ : List Float) (r : Result Unit Refusal) : Type 0 where
    pub refusal : r ≡ checked join_refusal
    pub knots : r ≡ Ok tt → k₁ ≡ over 0 (raised_knots p e n ks bs) k₀
    pub points : r ≡ Ok tt → p₁ ≡ over 0 (points_of o (kept_all p e ks h bs)) p₀
    pub weights : r ≡ Ok tt → w₁ ≡ over 0 (given_of g (weights_of (kept_all p e ks h bs))) w₀

-- the raised curve of the points ps and weights ws of the extraction: r is its refusal. Where there is none, it stands at the front of three runs
pub record Raised (p e n : ℕ) (ks bs : List Float) (g : Bool) (ps ws : List Float) (k₀ p₀ w₀ k₁ p₁ w₁ : List Float) (r : Result Unit Refusal) : Type 0 where
  pub refusal : r ≡ checked (raised_refusal p e n ks bs g ps ws)
  pub knots : r ≡ Ok tt → k₁ ≡ over 0 (raised_knots p e n ks bs) k₀
  pub points : r ≡ Ok tt → p₁ ≡ over 0 (raised_points p e n ks bs g ps ws) p₀
  pub weights : r ≡ Ok tt → w₁ ≡ over 0 (raised_weights p e n ks bs g ps ws) w₀
