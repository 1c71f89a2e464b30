-- A curve is not refused exactly where it is valid. And 9 of an empty run of weights.
-- Assumes nothing.
use Prim.Native.Nat.{ℕ, ◌+◌, ◌*◌, ◌/◌, ◌%◌, ◌≤◌, ◌<◌}
use mathlib.Core.Bool.{Bool, true, false, not, ◌&&◌, ◌||◌}
use mathlib.Core.Path.{◌≡◌, refl, sym, ◌∙◌, ap}
use mathlib.Core.List.{List, []}
use native.Mathlib.Nat.{div-add-mod, add-zero, mul-mod_right}
use native.Mathlib.Omega.{arith}
use lib.ListN.{length}
use lib.Dec.{eqb}
use lib.Ieee.{Float}
use lib.Ieee.Scale.{finite}
use borrow.Author.Tests.{eqb-true, ltb-false, le-ltb, eq-eqb, ne_eqb, not-false}
use Rattle.doubles.specs.Run.{at}
use Rattle.knots.specs.Refusal.{refuse, accepted, placed, or_else, PointNotFinite, WeightCount, WeightBad, LengthBad, PointsUneven}
use Rattle.knots.specs.Knots.{all_finite, knot_refusal, ValidKnots}
use Rattle.knots.specs.Curve.{longest, over_long, any_long, is_weight, all_weights, control_refusal, count_of, formed_refusal, curve_refusal, Short, ValidControls, ValidCurve}
use Rattle.knots.proofs.Below.{all-at, all_in}
use Rattle.knots.proofs.Refusals.{passed, row_first, refusal-first, or_else-none}
use Rattle.knots.proofs.Valid.{valid, not-refused}

-- ---- lengths
pub or-false : (a b : Bool) → (a || b) ≡ false → (a ≡ false) × (b ≡ false)
or-false true b h = absurd (let z : ◌≡◌ {A = ℕ} 0 1 = cc in omega arith)
or-false false b h = (refl, h)

pub within : (g : Bool) (xs : List Float) → over_long g xs ≡ false → g ≡ true → length xs ≤ longest
unfolding over_long
within true xs h e = ltb-false longest (length xs) h
within false xs h e = let z : ◌≡◌ {A = ℕ} 0 1 = cc in omega arith

pub not-long : (g : Bool) (xs : List Float) → (g ≡ true → length xs ≤ longest) → over_long g xs ≡ false
unfolding over_long
not-long true xs h = le-ltb longest (length xs) (h refl)
not-long false xs h = refl

pub short : (ks ps : List Float) (g : Bool) (ws : List Float) → any_long ks ps g ws ≡ false → Short ks ps g ws
unfolding any_long
short ks ps g ws h =
    let a = or-false (over_long true ks) (over_long true ps || over_long g ws) h in
    let b = or-false (over_long true ps) (over_long g ws) a.1 in
    record { knots = within true ks a.0 refl; points = within true ps b.0 refl; weights = within g ws b.1 }

pub none-long : (ks ps : List Float) (g : Bool) (ws : List Float) → Short ks ps g ws → any_long ks ps g ws ≡ false
unfolding any_long
none-long ks ps g ws s = simp (not-long true ks (λ e. s.knots), not-long true ps (λ e. s.points), not-long g ws s.weights)

pub thirds : (n : ℕ) → n % 3 ≡ 0 → n ≡ 3 * (n / 3)
thirds n h = sym (div-add-mod n 3) ∙ (ap (λ (m : ℕ). 3 * (n / 3) + m) h ∙ add-zero (3 * (n / 3)))

thirds-of : (n : ℕ) → n ≡ 3 * (n / 3) → n % 3 ≡ 0
thirds-of n h = ap (λ (m : ℕ). m % 3) h ∙ mul-mod_right 3 (n / 3)

-- ---- points and weights
-- a test that is made only where g holds
pub given : (g t : Bool) → (g && not t) ≡ false → g ≡ true → t ≡ true
given true t h e = not-false t h
given false t h e = cc

pub not-given : (g t : Bool) → (g ≡ true → t ≡ true) → (g && not t) ≡ false
not-given true t h = ap not (h refl)
not-given false t h = refl

module _ (n : ℕ) (ps : List Float) (g : Bool) (ws : List Float) where
  pub valid-controls : (control_refusal n ps g ws).number ≡ 0 → ValidControls n ps g ws
  unfolding control_refusal all_finite all_weights
  valid-controls h =
      let a = passed (not (all_finite ps)) (placed _ (refuse PointNotFinite)) _ (λ e. omega arith) h in
      let b = passed (g && not (eqb (length ws) n)) (refuse WeightCount) _ (λ e. omega arith) a.1 in
      let c = passed (g && not (all_weights ws)) (placed _ (refuse WeightBad)) accepted (λ e. omega arith) b.1 in
      record {
        coordinates = all-at (λ k. finite (at ps k)) (length ps) (not-false _ a.0);
        weights = λ e. eqb-true (length ws) n (given g (eqb (length ws) n) b.0 e);
        positive = λ e. all-at (λ k. is_weight (at ws k)) (length ws) (given g (all_weights ws) c.0 e);
      }

  pub controls-not-refused : ValidControls n ps g ws → control_refusal n ps g ws ≡ accepted
  unfolding control_refusal all_finite all_weights
  controls-not-refused v =
      let a : all_finite ps ≡ true = all_in (λ k. finite (at ps k)) (length ps) v.coordinates in
      let b : (g && not (eqb (length ws) n)) ≡ false = not-given g (eqb (length ws) n) (λ e. eq-eqb (length ws) n (v.weights e)) in
      let c : (g && not (all_weights ws)) ≡ false = not-given g (all_weights ws) (λ e. all_in (λ k. is_weight (at ws k)) (length ws) (v.positive e)) in
      simp (a, b, c)

-- ---- the curve
module _ (p n : ℕ) (ks ps : List Float) (g : Bool) (ws : List Float) where
  pub valid-formed : (formed_refusal p n ks ps g ws).number ≡ 0 → ValidKnots p n ks × ValidControls n ps g ws
  unfolding formed_refusal
  valid-formed h =
      let a = or_else-none (knot_refusal p n ks) (control_refusal n ps g ws) h in
      (valid p n ks a.0, valid-controls n ps g ws a.1)

  pub formed-not-refused : ValidKnots p n ks → ValidControls n ps g ws → formed_refusal p n ks ps g ws ≡ accepted
  unfolding formed_refusal
  formed-not-refused k c = simp (not-refused p n ks k, controls-not-refused n ps g ws c)

module _ (p : ℕ) (ks ps : List Float) (g : Bool) (ws : List Float) where
  pub valid-curve : (curve_refusal p ks ps g ws).number ≡ 0 → ValidCurve p ks ps g ws
  unfolding curve_refusal
  valid-curve h =
      let a = passed (any_long ks ps g ws) (refuse LengthBad) _ (λ e. omega arith) h in
      let b = passed (not (eqb (length ps % 3) 0)) (refuse PointsUneven) _ (λ e. omega arith) a.1 in
      let c = valid-formed p (count_of ps) ks ps g ws b.1 in
      record {
        short = short ks ps g ws a.0;
        triples = thirds (length ps) (eqb-true (length ps % 3) 0 (not-false _ b.0));
        knots = c.0;
        controls = c.1;
      }

  pub curve-not-refused : ValidCurve p ks ps g ws → curve_refusal p ks ps g ws ≡ accepted
  unfolding curve_refusal
  curve-not-refused v =
      simp (
        none-long ks ps g ws v.short,
        eq-eqb (length ps % 3) 0 (thirds-of (length ps) v.triples),
        formed-not-refused p (count_of ps) ks ps g ws v.knots v.controls,
      )

-- ---- weights that are given, and are none: 9 behind all that refuses the curve without weights
controls-empty : (n : ℕ) (ps : List Float) → 0 < n → control_refusal n ps true [] ≡ or_else (control_refusal n ps false []) (refuse WeightCount)
unfolding control_refusal
controls-empty n ps h = row_first (not (all_finite ps)) (placed _ (refuse PointNotFinite)) _ _ (refuse WeightCount) (λ e. omega arith) (rw (ne_eqb 0 n (λ e. omega arith)))

pub empty-weights : (p : ℕ) (ks ps : List Float) → curve_refusal p ks ps true [] ≡ or_else (curve_refusal p ks ps false []) (refuse WeightCount)
unfolding curve_refusal formed_refusal any_long over_long
empty-weights p ks ps =
    let n = count_of ps in
    row_first (any_long ks ps false []) (refuse LengthBad) _ _ (refuse WeightCount) (λ e. omega arith)
    (row_first (not (eqb (length ps % 3) 0)) (refuse PointsUneven) _ _ (refuse WeightCount) (λ e. omega arith)
    (refusal-first (knot_refusal p n ks) _ _ (refuse WeightCount)
    (λ e. let count = (valid p n ks e).count in controls-empty n ps (omega arith))))
