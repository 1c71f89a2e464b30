-- What the checks of a range leave: the span taken, exactly, with a fraction of the range inside it. And the weights of a valid curve as fractions. Assumes nothing.
use mathlib.Core.Path.{◌≡◌, refl, ◌∙◌, subst}
use mathlib.Core.Bool.{Bool, true, false, not, ◌&&◌, cond}
use mathlib.Core.Logic.{◌⊎◌, inl, inr}
use mathlib.Core.List.{List}
use Prim.Native.Nat.{ℕ, zero, suc, ◌+◌, ◌-◌, ◌≤◌, ◌<◌}
use native.Mathlib.Numerals.{add-one}
use native.Mathlib.Omega.{arith}
use lib.Dec.{T, ltb, eqb}
use lib.ListN.{length}
use lib.Ieee.{Float, lt, le}
use lib.Ieee.Scale.{finite}
use borrow.Author.Tests.{ltb-false, eqb-false, not-false}
use Rattle.exact.specs.Rational.{ℚ, q0, ◌≤q◌, ◌<q◌}
use Rattle.exact.specs.Spline.{Knots}
use Rattle.exact.proofs.Field.{≤_trans}
use Rattle.doubles.specs.Value.{zero+, one+, val}
use Rattle.doubles.specs.Run.{at, val_at}
use Rattle.doubles.proofs.TestFacts.{T_of, Tn-of}
use Rattle.doubles.proofs.Value.{val-lt, val-le, val-zero}
use Rattle.doubles.proofs.Order.{val-leq}
use Rattle.knots.specs.Refusal.{refuse, accepted}
use Rattle.knots.specs.declared.refusal.Reason.TheVariants.{DegreeHigh, RangeBad, RangeInNoSpan}
use Rattle.knots.specs.Knots.{ValidKnots}
use Rattle.knots.specs.Curve.{is_weight, ValidControls}
use Rattle.knots.proofs.Refusals.{passed}
use Rattle.knots.proofs.Below.{and_left, and_right}
use Rattle.knots.proofs.Fractions.{knots-of}
use Rattle.interval.specs.Inside.{Inside}
use Rattle.interval.specs.Ops.{point_of}
use Rattle.interval.proofs.Contain.{point-inside}
use Rattle.ranges.specs.Range.{in_span, first_from, span_over, span_in, range_refusal}
use Rattle.ranges.proofs.First.{span-in}
use Rattle.runs.specs.Weight.{weight_at}

-- ---- the span that is taken
pub record Taken (f : ℕ → Bool) (from upto s : ℕ) : Type 0 where
  pub first : from ≤ s
  pub last : s < upto
  pub taken : f s ≡ true

pub first-is : (f : ℕ → Bool) (k i : ℕ) → (first_from f k i ≡ i + k) ⊎ Taken f i (i + k) (first_from f k i)
unfolding first_from
first-is f zero i = inl (omega arith)
first-is f (suc k) i = go (f i) refl (first-is f k (i + 1))
  where
    go : (b : Bool) → f i ≡ b → (first_from f k (i + 1) ≡ i + 1 + k) ⊎ Taken f (i + 1) (i + 1 + k) (first_from f k (i + 1))
        → (cond b i (first_from f k (i + 1)) ≡ i + suc k) ⊎ Taken f i (i + suc k) (cond b i (first_from f k (i + 1)))
    go true e h = inr (record { first = omega arith; last = omega arith; taken = e })
    go false e (inl h) = inl (omega arith)
    go false e (inr h) = let a = h.first in let b = h.last in inr (record { first = omega arith; last = omega arith; taken = h.taken })

pub record SpanValid (p n : ℕ) (ks : List Float) (lo hi : Float) (s : ℕ) : Type 0 where
  pub small : p ≤ 64
  pub lo-finite : T (finite lo)
  pub hi-finite : T (finite hi)
  pub forward : val lo ≤q val hi
  pub span : Taken (in_span ks lo hi) p n s

-- what a range that is not refused is, whatever its span s
pub record RangeValid (p n s : ℕ) (lo hi : Float) : Type 0 where
  pub small : p ≤ 64
  pub lo-finite : T (finite lo)
  pub hi-finite : T (finite hi)
  pub forward : val lo ≤q val hi
  pub found : s ≡ n → ⊥

pub range-valid : (p n s : ℕ) (lo hi : Float) → (range_refusal p n s lo hi).number ≡ 0 → RangeValid p n s lo hi
unfolding range_refusal
range-valid p n s lo hi h =
    let a = passed (ltb 64 p) (refuse DegreeHigh) _ (λ e. omega arith) h in
    let b = passed (not (finite lo)) (refuse RangeBad) _ (λ e. omega arith) a.1 in
    let c = passed (not (finite hi)) (refuse RangeBad) _ (λ e. omega arith) b.1 in
    let d = passed (lt hi lo) (refuse RangeBad) _ (λ e. omega arith) c.1 in
    let e = passed (eqb s n) (refuse RangeInNoSpan) accepted (λ e. omega arith) d.1 in
    let f = T_of (finite lo) (not-false (finite lo) b.0) in
    let g = T_of (finite hi) (not-false (finite hi) c.0) in
    record {
      small = ltb-false 64 p a.0;
      lo-finite = f;
      hi-finite = g;
      forward = val-le hi lo g f (Tn-of (lt hi lo) d.0);
      found = eqb-false s n e.0;
    }

-- valid knots have a domain
pub span-is : (p n : ℕ) (ks : List Float) (lo hi : Float) → ValidKnots p n ks → span_in p n ks lo hi ≡ span_over p n ks lo hi
span-is p n ks lo hi Kn =
    let c = Kn.count in
    let l = Kn.long in
    span-in p n ks lo hi (omega arith) (omega arith)

pub span-valid : (p n : ℕ) (ks : List Float) (lo hi : Float) → p ≤ n → (range_refusal p n (span_over p n ks lo hi) lo hi).number ≡ 0 → SpanValid p n ks lo hi (span_over p n ks lo hi)
unfolding span_over
span-valid p n ks lo hi l h =
    let v = range-valid p n (span_over p n ks lo hi) lo hi h in
    let f : p + (n - p) ≡ n = omega arith in
    record {
      small = v.small;
      lo-finite = v.lo-finite;
      hi-finite = v.hi-finite;
      forward = v.forward;
      span = elim (first-is (in_span ks lo hi) (n - p) p) [
        | inl x ↦ absurd (v.found (x ∙ f))
        | inr y ↦ subst (λ m. Taken (in_span ks lo hi) p m (span_over p n ks lo hi)) f y
      ];
    }

-- ---- a fraction of the range inside it
pub record InSpan (p n : ℕ) (ks : List Float) (s : ℕ) (t : ℚ) : Type 0 where
  pub low : p ≤ s
  pub base : s - p + p ≡ s
  pub fits : s < n
  pub room : s + p < length ks
  pub held : (i : ℕ) → s < i + p → i ≤ s + p → Inside (point_of (at ks i)) (val_at ks i)
  pub knots : Knots (val_at ks) (length ks) s
  pub above : val_at ks s ≤q t
  pub below : t ≤q val_at ks (suc s)

pub in_parts : (ks : List Float) (lo hi : Float) (s : ℕ) → in_span ks lo hi s ≡ true → (lt (at ks s) (at ks (s + 1)) ≡ true) × (le (at ks s) lo ≡ true) × (le hi (at ks (s + 1)) ≡ true)
unfolding in_span
in_parts ks lo hi s h =
    let a = and_left (lt (at ks s) (at ks (s + 1))) (le (at ks s) lo && le hi (at ks (s + 1))) h in
    let b = and_right (lt (at ks s) (at ks (s + 1))) (le (at ks s) lo && le hi (at ks (s + 1))) h in
    (a, and_left (le (at ks s) lo) (le hi (at ks (s + 1))) b, and_right (le (at ks s) lo) (le hi (at ks (s + 1))) b)

-- t between the knots of its span
module _ (ks : List Float) (lo hi : Float) (s : ℕ) (h : in_span ks lo hi s ≡ true) (lf : T (finite lo)) (hf : T (finite hi)) (f : T (finite (at ks s))) (g : T (finite (at ks (s + 1)))) (t : ℚ)
    (from : val lo ≤q t) (upto : t ≤q val hi) where
  pub t-above : val_at ks s ≤q t
  t-above = ≤_trans (val-leq (at ks s) lo f lf (T_of (le (at ks s) lo) (in_parts ks lo hi s h).1)) from

  pub t-below : t ≤q val_at ks (suc s)
  t-below = ≤_trans upto (subst (λ j. val hi ≤q val_at ks j) (add-one s) (val-leq hi (at ks (s + 1)) hf g (T_of (le hi (at ks (s + 1))) (in_parts ks lo hi s h).2)))

module _ (p n : ℕ) (ks : List Float) (lo hi : Float) (s : ℕ) (Kn : ValidKnots p n ks) (Sp : SpanValid p n ks lo hi s) (t : ℚ) (from : val lo ≤q t) (upto : t ≤q val hi) where
  pub in-span : InSpan p n ks s t
  in-span =
      let h = Sp.span.first in
      let k = Sp.span.last in
      let l = Kn.long in
      let q = Kn.degree in
      let F : (i : ℕ) → i < length ks → T (finite (at ks i)) = λ i l. T_of (finite (at ks i)) (Kn.finites i l) in
      let T' = Sp.span.taken in
      record {
        low = h;
        base = omega arith;
        fits = k;
        room = omega arith;
        held = λ i a b. point-inside (at ks i) (F i (omega arith));
        knots = knots-of p n ks Kn s k (in_parts ks lo hi s T').0;
        above = t-above ks lo hi s T' Sp.lo-finite Sp.hi-finite (F s (omega arith)) (F (s + 1) (omega arith)) t from upto;
        below = t-below ks lo hi s T' Sp.lo-finite Sp.hi-finite (F s (omega arith)) (F (s + 1) (omega arith)) t from upto;
      }

-- ---- the weights of valid controls
pub above-0 : (x : Float) → T (finite x) → T (lt zero+ x) → q0 <q val x
above-0 x f h = subst (λ z. z <q val x) val-zero (val-lt zero+ x tt f h)

one-pos : T (lt zero+ one+)
unfolding lt
one-pos = tt

-- a weight that is one where it is given
pub record Heavy (r : Bool) (ws : List Float) (i : ℕ) : Type 0 where
  pub held : T (finite (weight_at r ws i))
  pub over : T (lt zero+ (weight_at r ws i))

pub heavy-of : (r : Bool) (ws : List Float) (i : ℕ) → (r ≡ true → is_weight (at ws i) ≡ true) → Heavy r ws i
unfolding is_weight weight_at
heavy-of true ws i h = let e = h refl in record { held = T_of _ (and_left (finite (at ws i)) (lt zero+ (at ws i)) e); over = T_of _ (and_right (finite (at ws i)) (lt zero+ (at ws i)) e) }
heavy-of false ws i h = record { held = tt; over = one-pos }

pub heavy-pos : {r : Bool} {ws : List Float} {i : ℕ} → Heavy r ws i → q0 <q val (weight_at r ws i)
heavy-pos {r} {ws} {i} h = above-0 (weight_at r ws i) h.held h.over

pub heavy-valid : (n : ℕ) (ps : List Float) (r : Bool) (ws : List Float) → ValidControls n ps r ws → (i : ℕ) → i < n → Heavy r ws i
heavy-valid n ps r ws C i l = heavy-of r ws i (λ e. let L = C.weights e in C.positive e i (omega arith))
