-- What no refusal by the runs' lengths, of the degree or a room says; and that a valid curve has none. Assumes nothing.
use Prim.Native.Nat.{ℕ, zero, suc, ◌+◌, ◌*◌, ◌%◌, ◌≤◌, ◌<◌}
use mathlib.Core.Bool.{Bool, true, not, ◌&&◌}
use mathlib.Core.Path.{◌≡◌, refl}
use mathlib.Core.List.{List}
use native.Mathlib.Omega.{arith}
use lib.ListN.{length}
use lib.Dec.{leb, ltb, eqb}
use lib.Ieee.{Float}
use borrow.Author.Tests.{ltb-false, leb-false, lt-leb, le-ltb, eqb-true, eqb-false, eq-eqb, ne_eqb, not-false}
use Rattle.knots.specs.Refusal.{refuse, accepted, DegreeZero, FewPoints, KnotCount, WeightCount, LengthBad, DegreeHigh, PointsUneven}
use Rattle.knots.specs.Knots.{ValidKnots}
use Rattle.knots.specs.Curve.{count_of, ValidCurve}
use Rattle.knots.specs.Shape.{degree_refusal, room_refusal, weight_shape, knot_shape, curve_shape}
use Rattle.knots.proofs.Refusals.{passed, or_else-none}
use Rattle.knots.proofs.Curves.{thirds, given, not-given}

-- ---- one by one
above : (k : ℕ) → (k ≡ 0 → ⊥) → 0 < k
above zero z = absurd (z refl)
above (suc k) z = omega arith

pub degree-open : (p : ℕ) → (degree_refusal p).number ≡ 0 → p ≤ 64
unfolding degree_refusal
degree-open p h = ltb-false 64 p (passed (ltb 64 p) (refuse DegreeHigh) accepted (λ e. omega arith) h).0

pub degree-none : (p : ℕ) → p ≤ 64 → degree_refusal p ≡ accepted
unfolding degree_refusal
degree-none p h = simp (le-ltb 64 p h)

pub room_open : (a n : ℕ) → (room_refusal a n).number ≡ 0 → n ≤ a
unfolding room_refusal
room_open a n h = ltb-false a n (passed (ltb a n) (refuse LengthBad) accepted (λ e. omega arith) h).0

pub weights-open : (n : ℕ) (g : Bool) (ws : List Float) → (weight_shape n g ws).number ≡ 0 → g ≡ true → length ws ≡ n
unfolding weight_shape
weights-open n g ws h q = eqb-true (length ws) n (given g (eqb (length ws) n) (passed (g && not (eqb (length ws) n)) (refuse WeightCount) accepted (λ e. omega arith) h).0 q)

pub weights-none : (n : ℕ) (g : Bool) (ws : List Float) → (g ≡ true → length ws ≡ n) → weight_shape n g ws ≡ accepted
unfolding weight_shape
weights-none n g ws h = simp (not-given g (eqb (length ws) n) (λ e. eq-eqb (length ws) n (h e)))

-- ---- knots of a fitting length
pub record Fitting (p n : ℕ) (ks : List Float) : Type 0 where
  pub degree : 0 < p
  pub count : p < n
  pub long : length ks ≡ n + p + 1

module _ (p n : ℕ) (ks : List Float) where
  pub knots-open : (knot_shape p n ks).number ≡ 0 → Fitting p n ks
  unfolding knot_shape
  knots-open h =
      let a = passed (eqb p 0) (refuse DegreeZero) _ (λ e. omega arith) h in
      let b = passed (leb n p) (refuse FewPoints) _ (λ e. omega arith) a.1 in
      let c = passed (not (eqb (length ks) (n + p + 1))) (refuse KnotCount) accepted (λ e. omega arith) b.1 in
      record {
        degree = above p (eqb-false p 0 a.0);
        count = leb-false n p b.0;
        long = eqb-true (length ks) (n + p + 1) (not-false _ c.0);
      }

  pub knots-none : ValidKnots p n ks → knot_shape p n ks ≡ accepted
  unfolding knot_shape
  knots-none v =
      let d = v.degree in
      simp (ne_eqb p 0 (λ e. omega arith), lt-leb n p v.count, eq-eqb (length ks) (n + p + 1) v.long)

-- ---- a curve
module _ (p : ℕ) (ks ps : List Float) (g : Bool) (ws : List Float) where
  pub record Shaped : Type 0 where
    pub triples : length ps ≡ 3 * count_of ps
    pub knots : Fitting p (count_of ps) ks
    pub weights : g ≡ true → length ws ≡ count_of ps

  pub shaped : (curve_shape p ks ps g ws).number ≡ 0 → Shaped
  unfolding curve_shape
  shaped h =
      let a = passed (not (eqb (length ps % 3) 0)) (refuse PointsUneven) _ (λ e. omega arith) h in
      let b = or_else-none (knot_shape p (count_of ps) ks) (weight_shape (count_of ps) g ws) a.1 in
      record {
        triples = thirds (length ps) (eqb-true (length ps % 3) 0 (not-false _ a.0));
        knots = knots-open p (count_of ps) ks b.0;
        weights = weights-open (count_of ps) g ws b.1;
      }

  pub shape-none : ValidCurve p ks ps g ws → curve_shape p ks ps g ws ≡ accepted
  unfolding curve_shape
  shape-none v =
      let l = v.triples in
      let rest : length ps % 3 ≡ 0 = omega arith in
      simp (eq-eqb (length ps % 3) 0 rest, knots-none p (count_of ps) ks v.knots) (weights-none (count_of ps) g ws v.controls.weights)
