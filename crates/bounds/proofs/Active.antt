-- The numbers that a bound on a span reads: what its refusals leave of them, and that a valid curve has them. Assumes nothing.
use mathlib.Core.Path.{◌≡◌, refl, sym, ◌∙◌, ap, subst}
use mathlib.Core.Bool.{Bool, true, false, not, ◌&&◌, cond}
use mathlib.Core.Logic.{inl, inr}
use mathlib.Core.List.{List}
use Prim.Native.Nat.{ℕ, suc, ◌+◌, ◌-◌, ◌*◌, ◌≤◌, ◌<◌}
use native.Mathlib.Nat.{add-suc}
use native.Mathlib.Numerals.{add-one}
use native.Mathlib.Omega.{arith}
use lib.Dec.{T, ltb, leb}
use lib.ListN.{length, drop, length-drop}
use lib.Seq.{length-take-le, get_or-take, get_or-drop}
use lib.Ieee.{Float, nan, lt}
use lib.Ieee.Scale.{finite}
use borrow.Author.Tests.{lt-ltb, ltb-true, le-leb, leb-true, not-true, not-false}
use Rattle.exact.specs.Rational.{ℚ, ◌≤q◌}
use Rattle.exact.specs.Spline.{Knots}
use Rattle.exact.proofs.Local.{Near}
use Rattle.exact.proofs.Window.{window, window-is, window-knots}
use Rattle.doubles.specs.Run.{at, val_at}
use Rattle.doubles.specs.Value.{val}
use Rattle.doubles.proofs.TestFacts.{T_of, Tn-of}
use Rattle.doubles.proofs.Value.{val-lt, val-le}
use Rattle.interval.specs.Inside.{Inside}
use Rattle.interval.specs.Ops.{point_of}
use Rattle.interval.proofs.Contain.{point-inside}
use Rattle.knots.specs.Below.{all_below}
use Rattle.knots.specs.Refusal.{refuse, accepted, placed, or_else}
use Rattle.knots.specs.declared.refusal.Reason.TheVariants.{KnotsUnordered, PointNotFinite, WeightBad, LengthBad}
use Rattle.knots.specs.Knots.{all_finite, in_order, ordered}
use Rattle.knots.specs.Curve.{count_of, is_weight, all_weights, any_long, Short, ValidCurve}
use Rattle.knots.specs.Shape.{curve_shape}
use Rattle.knots.proofs.Below.{and-true, and_left, and_right, all-at, all_in}
use Rattle.knots.proofs.Refusals.{passed, or_else-none}
use Rattle.knots.proofs.Curves.{short, none-long, given, not-given}
use Rattle.knots.proofs.Shapes.{Shaped, shaped, shape-none}
use Rattle.jets.proofs.CartesianIn.{FinitePoint}
use Rattle.ranges.specs.Range.{in_span, first_from, span_over, taken_span, range_refusal}
use Rattle.ranges.specs.Read.{part, read_refusal, place_refusal, start_refusal}
use Rattle.runs.specs.Point as P
use Rattle.bounds.proofs.WeightIn.{point-finite}
use Rattle.ranges.proofs.SpanIn.{first-is, RangeValid, range-valid, Heavy, heavy-of, heavy-valid}

-- ---- a test at each place of a part
module _ (xs : List Float) (a b : ℕ) (l : b ≤ length xs) where
  place_at : (i : ℕ) → a + i < b → at (part a b xs) i ≡ at xs (a + i)
  place_at i h = get_or-take (b - a) (drop a xs) i nan (omega arith) ∙ get_or-drop a xs i nan

  at_place : (i : ℕ) → a ≤ i → i < b → at (part a b xs) (i - a) ≡ at xs i
  at_place i h k = let e : a + (i - a) ≡ i = omega arith in place_at (i - a) (omega arith) ∙ ap (at xs) e

  long : length (part a b xs) ≡ b - a
  long = let e = length-drop a xs in length-take-le (b - a) (drop a xs) (omega arith)

  module _ (f : Float → Bool) where
    pub part-all : all_below (λ k. f (at (part a b xs) k)) (length (part a b xs)) ≡ true → (i : ℕ) → a ≤ i → i < b → f (at xs i) ≡ true
    part-all h i g k = let e = long in ap f (sym (at_place i g k)) ∙ all-at (λ k. f (at (part a b xs) k)) (length (part a b xs)) h (i - a) (omega arith)

    pub all-part : ((i : ℕ) → a ≤ i → i < b → f (at xs i) ≡ true) → all_below (λ k. f (at (part a b xs) k)) (length (part a b xs)) ≡ true
    all-part h = all_in (λ k. f (at (part a b xs) k)) (length (part a b xs)) (λ k m. let e = long in ap f (place_at k (omega arith)) ∙ h (a + k) (omega arith) (omega arith))

  pub part-ordered : ordered (part a b xs) ≡ true → ((i : ℕ) → a ≤ i → i < b → finite (at xs i) ≡ true) × ((i : ℕ) → a ≤ i → i + 1 < b → lt (at xs (i + 1)) (at xs i) ≡ false)
  unfolding ordered all_finite in_order
  part-ordered h = (
    part-all finite (and_left (all_finite (part a b xs)) (in_order (part a b xs)) h),
    λ i g k.
        let e = long in
        let x : i + 1 - a ≡ i - a + 1 = omega arith in
        not-true _ (rw (← (at_place i g (omega arith)), ← (at_place (i + 1) (omega arith) k), x)
        (all-at (λ k. not (lt (at (part a b xs) (k + 1)) (at (part a b xs) k))) (length (part a b xs) - 1) (and_right (all_finite (part a b xs)) (in_order (part a b xs)) h) (i - a) (omega arith))),
  )

  pub ordered-part : ((i : ℕ) → a ≤ i → i < b → finite (at xs i) ≡ true) → ((i : ℕ) → a ≤ i → i + 1 < b → lt (at xs (i + 1)) (at xs i) ≡ false) → ordered (part a b xs) ≡ true
  unfolding ordered all_finite in_order
  ordered-part f g = and-true (all_finite (part a b xs)) (in_order (part a b xs)) (all-part finite f)
      (all_in (λ k. not (lt (at (part a b xs) (k + 1)) (at (part a b xs) k))) (length (part a b xs) - 1) (λ k m.
      let e = long in
      let x : a + (k + 1) ≡ a + k + 1 = omega arith in
      rw (place_at k (omega arith), place_at (k + 1) (omega arith), x) (ap not (g (a + k) (omega arith) (omega arith)))))

-- ---- what is read
pub record Active (p s : ℕ) (ks ps : List Float) (r : Bool) (ws : List Float) : Type 0 where
  pub degree : 0 < p
  pub first : p ≤ s
  pub last : s < count_of ps
  pub room : s + p < length ks
  pub finites : (i : ℕ) → s < i + p → i ≤ s + p → T (finite (at ks i))
  pub rises : (i : ℕ) → s < i + p → i < s + p → lt (at ks (i + 1)) (at ks i) ≡ false
  pub points : (i : ℕ) → i ≤ p → FinitePoint (P.point_of ps (s - p + i))
  pub heavy : (i : ℕ) → i ≤ p → Heavy r ws (s - p + i)

-- a range of finite ends in order that the span contains
pub record Ranged (ks : List Float) (lo hi : Float) (s : ℕ) : Type 0 where
  pub lo-finite : T (finite lo)
  pub hi-finite : T (finite hi)
  pub forward : val lo ≤q val hi
  pub taken : in_span ks lo hi s ≡ true

pub valid-active : {p s : ℕ} {ks ps : List Float} {r : Bool} {ws : List Float} → ValidCurve p ks ps r ws → p ≤ s → s < count_of ps → Active p s ks ps r ws
valid-active {p} {s} {ks} {ps} {r} {ws} Va h l =
    let L = Va.knots.long in
    record {
      degree = Va.knots.degree;
      first = h;
      last = l;
      room = omega arith;
      finites = λ i a b. T_of _ (Va.knots.finites i (omega arith));
      rises = λ i a b. Va.knots.rises i (omega arith);
      points = λ i m. point-finite ps (count_of ps) Va.triples Va.controls.coordinates (s - p + i) (omega arith);
      heavy = λ i m. heavy-valid (count_of ps) ps r ws Va.controls (s - p + i) (omega arith);
    }

-- the knots that are read as fractions, and in order beyond them
abbrev pub around : ℕ → ℕ → List Float → ℕ → ℚ
around p s ks = window (val_at ks) (s - p + 1) (p + p - 1)

module _ {p s : ℕ} {ks ps : List Float} {r : Bool} {ws : List Float} (A : Active p s ks ps r ws) where
  pub around-is : (i : ℕ) → s < i + p → i ≤ s + p → around p s ks i ≡ val_at ks i
  around-is i g h = let a = A.degree in let b = A.first in window-is (val_at ks) (s - p + 1) (p + p - 1) i (omega arith) (omega arith)

  pub around-held : (i : ℕ) → s < i + p → i ≤ s + p → Inside (point_of (at ks i)) (around p s ks i)
  around-held i g h = subst (Inside (point_of (at ks i))) (sym (around-is i g h)) (point-inside (at ks i) (A.finites i g h))

  step : (i : ℕ) → s < i + p → i < s + p → val_at ks i ≤q val_at ks (suc i)
  step i g h =
      let e : lt (at ks (suc i)) (at ks i) ≡ false = subst (λ (m : ℕ). lt (at ks m) (at ks i) ≡ false) (add-one i) (A.rises i g h) in
      val-le (at ks (suc i)) (at ks i) (A.finites (suc i) (omega arith) (omega arith)) (A.finites i g (omega arith)) (Tn-of _ e)

  pub around-knots : lt (at ks s) (at ks (s + 1)) ≡ true → Knots (around p s ks) (suc (s + p)) s
  around-knots h =
      let a = A.degree in
      let b = A.first in
      let e : lt (at ks s) (at ks (suc s)) ≡ true = subst (λ (m : ℕ). lt (at ks s) (at ks m) ≡ true) (add-one s) h in
      window-knots (val_at ks) (s - p + 1) (p + p - 1)
      (λ i l. subst (λ (m : ℕ). val_at ks (s - p + 1 + i) ≤q val_at ks m) (sym (add-suc (s - p + 1) i)) (step (s - p + 1 + i) (omega arith) (omega arith)))
      (suc (s + p)) s (omega arith) (omega arith)
      (val-lt (at ks s) (at ks (suc s)) (A.finites s (omega arith) (omega arith)) (A.finites (suc s) (omega arith) (omega arith)) (T_of _ e))

  pub around-near : Near (around p s ks) (val_at ks) p (s - p) (s - p)
  around-near = record { alike = λ i g h. let b = A.first in around-is (s - p + i) (omega arith) (omega arith) }

-- ---- what no refusal says
module _ (p s : ℕ) (ks ps : List Float) (r : Bool) (ws : List Float) where
  module _ (Sh : Shaped p ks ps r ws) (h : p ≤ s) (l : s < count_of ps) where
    reads : (read_refusal p s ks ps r ws).number ≡ 0 → Active p s ks ps r ws
    unfolding read_refusal all_finite all_weights
    reads k =
        let d = Sh.knots.degree in
        let L = Sh.knots.long in
        let t = Sh.triples in
        let a = passed (not (ordered (part (s - p + 1) (s + p + 1) ks))) (placed _ (refuse KnotsUnordered)) _ (λ e. omega arith) k in
        let b = passed (not (all_finite (part ((s - p) * 3) (s * 3 + 3) ps))) (placed _ (refuse PointNotFinite)) _ (λ e. omega arith) a.1 in
        let c = passed (r && not (all_weights (part (s - p) (s + 1) ws))) (placed _ (refuse WeightBad)) accepted (λ e. omega arith) b.1 in
        let o = part-ordered ks (s - p + 1) (s + p + 1) (omega arith) (not-false _ a.0) in
        let f = part-all ps ((s - p) * 3) (s * 3 + 3) (omega arith) finite (not-false _ b.0) in
        record {
          degree = d;
          first = h;
          last = l;
          room = omega arith;
          finites = λ i g m. T_of _ (o.0 i (omega arith) (omega arith));
          rises = λ i g m. o.1 i (omega arith) (omega arith);
          points = λ i m. record {
            x = T_of _ (f ((s - p + i) * 3 + 0) (omega arith) (omega arith));
            y = T_of _ (f ((s - p + i) * 3 + 1) (omega arith) (omega arith));
            z = T_of _ (f ((s - p + i) * 3 + 2) (omega arith) (omega arith));
          };
          heavy =
              λ i m. heavy-of r ws (s - p + i)
              (λ e. let W = Sh.weights e in part-all ws (s - p) (s + 1) (omega arith) is_weight (given r (all_weights (part (s - p) (s + 1) ws)) c.0 e) (s - p + i) (omega arith) (omega arith));
        }

  read-valid : ValidCurve p ks ps r ws → p ≤ s → s < count_of ps → read_refusal p s ks ps r ws ≡ accepted
  unfolding read_refusal all_finite all_weights
  read-valid Va h l =
      let L = Va.knots.long in
      let t = Va.triples in
      let a : ordered (part (s - p + 1) (s + p + 1) ks) ≡ true =
      ordered-part ks (s - p + 1) (s + p + 1) (omega arith) (λ i g m. Va.knots.finites i (omega arith)) (λ i g m. Va.knots.rises i (omega arith)) in
      let b : all_finite (part ((s - p) * 3) (s * 3 + 3) ps) ≡ true = all-part ps ((s - p) * 3) (s * 3 + 3) (omega arith) finite (λ i g m. Va.controls.coordinates i (omega arith)) in
      let c : (r && not (all_weights (part (s - p) (s + 1) ws))) ≡ false =
      not-given r (all_weights (part (s - p) (s + 1) ws))
      (λ e. let W = Va.controls.weights e in all-part ws (s - p) (s + 1) (omega arith) is_weight (λ i g m. Va.controls.positive e i (omega arith))) in
      simp (a, b, c)

  module _ (lo hi : Float) where
    pub record Started : Type 0 where
      pub small : p ≤ 64
      pub short : Short ks ps r ws
      pub weights : r ≡ true → length ws ≡ count_of ps
      pub active : Active p s ks ps r ws
      pub ranged : Ranged ks lo hi s

    ranged-of : (b : Bool) → in_span ks lo hi s ≡ b → RangeValid p (count_of ps) (cond b s (count_of ps)) lo hi → Ranged ks lo hi s
    ranged-of true e v = record { lo-finite = v.lo-finite; hi-finite = v.hi-finite; forward = v.forward; taken = e }
    ranged-of false e v = absurd (v.found refl)

    pub started : (start_refusal p s ks ps r ws lo hi).number ≡ 0 → Started
    unfolding start_refusal place_refusal taken_span
    started k =
        let a = passed (any_long ks ps r ws) (refuse LengthBad) _ (λ e. omega arith) k in
        let b = or_else-none (curve_shape p ks ps r ws) (place_refusal p s ks ps r ws lo hi) a.1 in
        go (shaped p ks ps r ws b.0) (short ks ps r ws a.0) (leb p s && ltb s (count_of ps)) refl b.1
      where
        go : Shaped p ks ps r ws → Short ks ps r ws → (x : Bool) → (leb p s && ltb s (count_of ps)) ≡ x
            → (cond x (or_else (read_refusal p s ks ps r ws) (range_refusal p (count_of ps) (cond (in_span ks lo hi s) s (count_of ps)) lo hi))
            (range_refusal p (count_of ps) (count_of ps) lo hi)).number ≡ 0 → Started
        go Sh So true e m =
            let f = or_else-none (read_refusal p s ks ps r ws) (range_refusal p (count_of ps) (cond (in_span ks lo hi s) s (count_of ps)) lo hi) m in
            let v = range-valid p (count_of ps) (cond (in_span ks lo hi s) s (count_of ps)) lo hi f.1 in
            record {
              small = v.small;
              short = So;
              weights = Sh.weights;
              active = reads Sh (leb-true p s (and_left (leb p s) (ltb s (count_of ps)) e)) (ltb-true s (count_of ps) (and_right (leb p s) (ltb s (count_of ps)) e)) f.0;
              ranged = ranged-of (in_span ks lo hi s) refl v;
            }
        go Sh So false e m = absurd ((range-valid p (count_of ps) (count_of ps) lo hi m).found refl)

    -- of a valid curve only 31, 24, 25 are left
    pub start-valid : ValidCurve p ks ps r ws
        → start_refusal p s ks ps r ws lo hi ≡ range_refusal p (count_of ps) (cond (leb p s && ltb s (count_of ps)) (taken_span s (count_of ps) ks lo hi) (count_of ps)) lo hi
    unfolding start_refusal place_refusal
    start-valid Va = simp (none-long ks ps r ws Va.short, shape-none p ks ps r ws Va) (go (leb p s && ltb s (count_of ps)) refl)
      where
        go : (x : Bool) → (leb p s && ltb s (count_of ps)) ≡ x
            → cond x (or_else (read_refusal p s ks ps r ws) (range_refusal p (count_of ps) (taken_span s (count_of ps) ks lo hi) lo hi)) (range_refusal p (count_of ps) (count_of ps) lo hi)
            ≡ range_refusal p (count_of ps) (cond x (taken_span s (count_of ps) ks lo hi) (count_of ps)) lo hi
        go true e = simp (read-valid Va (leb-true p s (and_left (leb p s) (ltb s (count_of ps)) e)) (ltb-true s (count_of ps) (and_right (leb p s) (ltb s (count_of ps)) e)))
        go false e = refl

-- the span that bound_curve takes, asked for by its index
pub taken-first : (p n : ℕ) (ks : List Float) (lo hi : Float) → p ≤ n → let s = span_over p n ks lo hi in cond (leb p s && ltb s n) (taken_span s n ks lo hi) n ≡ s
unfolding span_over taken_span
taken-first p n ks lo hi l = elim (first-is (in_span ks lo hi) (n - p) p) [
  | inl x ↦ at-end (first_from (in_span ks lo hi) (n - p) p) (omega arith)
  | inr y ↦ inside (first_from (in_span ks lo hi) (n - p) p) y.first (let z = y.last in omega arith) y.taken
]
  where
    at-end : (s : ℕ) → s ≡ n → cond (leb p s && ltb s n) (cond (in_span ks lo hi s) s n) n ≡ s
    at-end s e = go (leb p s && ltb s n) (in_span ks lo hi s)
      where
        go : (x y : Bool) → cond x (cond y s n) n ≡ s
        go true true = refl
        go true false = sym e
        go false y = sym e

    inside : (s : ℕ) → p ≤ s → s < n → in_span ks lo hi s ≡ true → cond (leb p s && ltb s n) (cond (in_span ks lo hi s) s n) n ≡ s
    inside s a b e = simp (le-leb p s a, lt-ltb s n b, e)
