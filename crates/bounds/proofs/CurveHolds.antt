-- THE THEOREM. Where bound_curve answers with bounds, each coordinate's interval holds the exact coordinate of the curve at every fraction of the range, and the derivative's
-- interval the exact derivative. Assumes nothing.
use mathlib.Core.Path.{◌≡◌, refl, sym, ◌∙◌, subst}
use mathlib.Core.Bool.{Bool, true, false, ◌&&◌, cond}
use mathlib.Core.Logic.{◌≢◌}
use mathlib.Core.List.{List, [], ◌∷◌}
use Prim.Native.Nat.{ℕ, suc, ◌+◌, ◌-◌, ◌≤◌, ◌<◌}
use native.Mathlib.Nat.{add-zero}
use native.Mathlib.Numerals.{add-one}
use native.Mathlib.Omega.{arith}
use lib.Dec.{leb, ltb}
use lib.Ieee.{Float, inf, le}
use borrow.Author.Tests.{eq-eqb}
use Rattle.doubles.specs.Value.{val, zero+}
use Rattle.exact.proofs.Curve.{exact-work, divisor-low, divisor-le-1, weight-pos}
use Rattle.exact.proofs.Field.{qring, q-ring, ≤_trans, <-≤-trans, pos-ne}
use Rattle.exact.proofs.Jets.{dwork, dexact-work}
use Rattle.exact.proofs.Source.{work}
use Rattle.exact.specs.Rational.{ℚ, ◌+q◌, ◌-q◌, ◌*q◌, ◌/q◌, inv, q0, q1, ◌≤q◌, ◌<q◌}
use Rattle.exact.specs.Spline.{Knots, exact, whole, dexact, quotient}
use Rattle.interval.proofs.Contain.{Formed}
use Rattle.interval.specs.Inside.{Inside}
use Rattle.interval.specs.Ops.{point_of, new_of, reciprocal_of}
use Rattle.interval.specs.declared.Interval.{Interval}
use Rattle.jets.specs.declared.jet.Jet.{Jet}
use Rattle.jets.specs.declared.net.Control.{Control}
use Rattle.bounds.specs.declared.start.Weights.{Weights}
use Rattle.jets.specs.Net.{mix_jet, mix_of, net_of, refusal_levels, last_by, deboor_of}
use Rattle.bounds.specs.Start.{weights_of, max_from, min_from, start_at, row_by, row_of}
use Rattle.runs.specs.Point as P
use Rattle.jets.specs.Cartesian.{cartesian_of, net_by}
use Rattle.ranges.specs.Range.{span_over, taken_span, range_refusal}
use Rattle.runs.specs.Weight.{weight_at}
use Rattle.ranges.specs.Read.{start_refusal}
use Rattle.jets.specs.Three.{Three}
use Rattle.bounds.proofs.Active.{Active, Ranged, around, around-is, around-held, around-knots, around-near, valid-active, started, start-valid, taken-first}
use Rattle.exact.proofs.Local.{Near, exact-local}
use Rattle.exact.proofs.Window.{dexact-local}
use Rattle.bounds.specs.Curve.{range_is, weights_are, span_bound, bound_of, bound_at, unless}
use Rattle.jets.specs.Jet.{parameter_of}
use Rattle.jets.proofs.JetIn.{JetIn, param_in}
use Rattle.bounds.proofs.Boxes.{X, Y, Z, boxed, unless-in}
use Rattle.jets.proofs.NetIn.{Given, levels-given, none, along, nowhere, net-in}
use Rattle.bounds.proofs.WeightIn.{Cut, Cuts, Largest, Least, largest, least, range-in, scale_in, bound-in, ControlIn, control-in}
use Rattle.jets.proofs.CartesianIn.{FinitePoint, Boxes, over, cartesian-in, boxes-eq, three-eq}
use Rattle.ranges.proofs.SpanIn.{span-valid, in_parts, t-above, t-below, heavy-pos}
use Rattle.bounds.specs.Answer.{bounded_of}
use Rattle.bounds.specs.Holds.{at-t, HoldsOn, Holds}
use Rattle.runs.specs.Fraction.{weight_value, coordinate_value}
use Rattle.knots.specs.Curve.{count_of, curve_refusal, ValidCurve}
use Rattle.knots.proofs.Curves.{valid-curve}
use Rattle.doubles.specs.Run.{val_at}
use Rattle.std.specs.Prelude.{Some, None, Result, Ok, Err}
use Rattle.interval.specs.declared.DivideError.{DivideError}
use Rattle.interval.specs.declared.DivideError.TheVariants.{HoldsZero, Unbounded}
use Rattle.jets.specs.declared.cartesian.Bounds.{Bounds}
use Rattle.knots.specs.declared.refusal.Refusal.{Refusal}

-- ---- on one span

module _ (p s : ℕ) (ks ps ws : List Float) (r : Bool) (lo hi : Float) (A : Active p s ks ps r ws) (Rv : Ranged ks lo hi s) (t : ℚ) (from : val lo ≤q t) (upto : t ≤q val hi) where
  abbrev n : ℕ
  n = count_of ps

  abbrev b : ℕ
  b = s - p

  base : s - p + p ≡ s
  base = let h = A.first in omega arith

  fits : s < count_of ps
  fits = A.last

  -- the knots that are read, and no others
  abbrev U : ℕ → ℚ
  U = around p s ks

  room : s + p < suc (s + p)
  room = omega arith

  knots : Knots U (suc (s + p)) s
  knots = around-knots A (in_parts ks lo hi s Rv.taken).0

  above : U s ≤q t
  above =
      let h = A.degree in subst (λ x. x ≤q t) (sym (around-is A s (omega arith) (omega arith)))
      (t-above ks lo hi s Rv.taken Rv.lo-finite Rv.hi-finite (A.finites s (omega arith) (omega arith)) (A.finites (s + 1) (omega arith) (omega arith)) t from upto)

  below : t ≤q U (suc s)
  below =
      let h = A.degree in subst (λ x. t ≤q x) (sym (around-is A (suc s) (omega arith) (omega arith)))
      (t-below ks lo hi s Rv.taken Rv.lo-finite Rv.hi-finite (A.finites s (omega arith) (omega arith)) (A.finites (s + 1) (omega arith) (omega arith)) t from upto)

  near : Near U (val_at ks) p (s - p) (s - p)
  near = around-near A

  -- the active weights
  abbrev w : ℕ → Float
  w m = weight_at r ws (s - p + m)

  least-is : Least w (suc p) (min_from (inf false) w (suc p))
  least-is = least w p (λ i l. (A.heavy i (omega arith)).held) (λ i l. heavy-pos (A.heavy i (omega arith)))

  most-is : Largest w (suc p) (max_from zero+ w (suc p))
  most-is = largest w (suc p) (λ i l. (A.heavy i (omega arith)).held)

  abbrev a : ℚ
  a = val (min_from (inf false) w (suc p))

  abbrev σ : ℚ
  σ = val (max_from zero+ w (suc p))

  a-pos : q0 <q a
  a-pos = least-is.positive

  lows : (m : ℕ) → m ≤ p → a ≤q weight_value r ws (s - p + m)
  lows m l = least-is.all m (omega arith)

  highs : (m : ℕ) → m ≤ p → weight_value r ws (s - p + m) ≤q σ
  highs m l = most-is.all m (omega arith)

  σ-pos : q0 <q σ
  σ-pos = <-≤-trans a-pos (≤_trans (lows 0 (omega arith)) (highs 0 (omega arith)))

  first-finite : FinitePoint (P.point_of ps (s - p))
  first-finite = subst (λ i. FinitePoint (P.point_of ps i)) (add-zero (s - p)) (A.points 0 (omega arith))

  -- the exact homogeneous net
  abbrev H : (ℕ → ℚ) → ℕ → ℚ
  H P m = (P (s - p + m) -q P (s - p)) *q (weight_value r ws (s - p + m) /q σ)

  abbrev HW : ℕ → ℚ
  HW m = weight_value r ws (s - p + m) /q σ

  abbrev wh : ℚ
  wh = work U t p s HW p p

  wh-low : a /q σ ≤q wh
  wh-low = divisor-low knots p b n base fits room above below (weight_value r ws) a σ σ-pos lows

  wh-high : wh ≤q q1
  wh-high = divisor-le-1 knots p b n base fits room above below (weight_value r ws) σ σ-pos highs

  sum-ne : whole U t s p n (weight_value r ws) ≢ q0
  sum-ne = pos-ne (weight-pos knots p b n base fits room above below (weight_value r ws) a a-pos lows)

  point-eq : (P : ℕ → ℚ) → work U t p s (H P) p p /q wh +q P b ≡ exact (val_at ks) t s p n (weight_value r ws) P
  point-eq P =
      sym (exact-work knots p b n base fits room t (weight_value r ws) P (P b) σ (pos-ne σ-pos) sum-ne) ∙ exact-local near base base fits fits t (weight_value r ws) P (weight_value r ws) P (λ i m. refl)
      (λ i m. refl)

  deriv-eq : (P : ℕ → ℚ) → quotient (work U t p s (H P) p p) (dwork U t p s (H P) (λ m. q0) p p) wh (dwork U t p s HW (λ m. q0) p p) ≡ dexact (val_at ks) t s p n (weight_value r ws) P
  deriv-eq P =
      sym (dexact-work knots p b n base fits room t (weight_value r ws) P (P b) σ (pos-ne σ-pos) sum-ne) ∙ dexact-local near base base fits fits t (weight_value r ws) P
      (weight_value r ws) P (λ i m. refl)
      (λ i m. refl)

  no-dv : (A B : ℚ) → quotient A q0 B q0 ≡ q0
  unfolding quotient
  no-dv A B = q-ring (A ∷ inv B ∷ []) (search qring depth 20) tt

  abbrev EX : (ℕ → ℚ) → Three
  EX P = at-t p ks n r ws s t P

  -- a homogeneous number with its derivatives
  abbrev HT : (ℕ → ℚ) → Three
  HT C = record { value = work U t p s C p p; du = dwork U t p s C (λ m. q0) p p; dv = q0 }

  exact-eq : (P : ℕ → ℚ) → over (HT (H P)) (HT HW) (P b) ≡ EX P
  exact-eq P = three-eq (over (HT (H P)) (HT HW) (P b)) (EX P) (point-eq P) (deriv-eq P) (no-dv (work U t p s (H P) p p) wh)

  abbrev Good : Result Bounds Refusal → Type 0
  Good A = Boxes A (EX (X ps)) (EX (Y ps)) (EX (Z ps))

  module _ (scale : Float) (bound : Interval) (cut : Cut (min_from (inf false) w (suc p)) (max_from zero+ w (suc p)) scale bound) where
    -- the levels on the row, weighed by the scale's reciprocal
    module _ (q : Interval) (k : Inside q (inv σ)) where
      abbrev net : ℕ → Control
      net = start_at ps ws r (s - p) (P.point_of ps (s - p)) q

      start-in : (m : ℕ) → m ≤ p → ControlIn (net m) (H (X ps) m) (H (Y ps) m) (H (Z ps) m) (HW m)
      unfolding start_at
      start-in m l =
          control-in (P.point_of ps (s - p + m)) (P.point_of ps (s - p)) (weight_at r ws (s - p + m)) q σ (A.points m l) first-finite (A.heavy m l).held k

      run : (j : Jet) → JetIn j t q1 q0 → refusal_levels ks p s j 1 p ≡ Ok tt → (sel : Control → Jet) → ((α : Jet) (a b : Control) → sel (mix_of α a b) ≡ mix_jet α (sel a) (sel b))
          → (C : ℕ → ℚ) → ((m : ℕ) → m ≤ p → JetIn (sel (net m)) (C m) q0 q0) → JetIn (sel (net_of ks p s j net p p)) (work U t p s C p p) (dwork U t p s C (λ m. q0) p p) q0
      unfolding dwork
      run j h e sel mixes C start = net-in ks p s j knots A.first room (around-held A) t q1 q0 h sel mixes net C (dwork U t p s C (λ m. q0)) (λ l j. q0)
          (along U t p s C (λ m. q0)) (nowhere U t p s C) start (none ks p s j e) p p (omega arith)

      levels-in : (j : Jet) → JetIn j t q1 q0 → (k : Result (Unit {0}) Refusal) → refusal_levels ks p s j 1 p ≡ k → Good (net_by (P.point_of ps (s - p)) bound (last_by k (net_of ks p s j net p p)))
      unfolding last_by mix_of
      levels-in j h (Err k) e = subst Given e (levels-given ks p s j knots A.first room (around-held A) t q1 q0 h 0 p (omega arith))
      levels-in j h (Ok k) e =
          boxes-eq (cartesian_of (net_of ks p s j net p p) (P.point_of ps (s - p)) bound) (over (HT (H (X ps))) (HT HW) (X ps b)) (over (HT (H (Y ps))) (HT HW) (Y ps b))
          (over (HT (H (Z ps))) (HT HW) (Z ps b))
          (EX (X ps)) (EX (Y ps)) (EX (Z ps)) (exact-eq (X ps)) (exact-eq (Y ps)) (exact-eq (Z ps))
          (cartesian-in (net_of ks p s j net p p) (P.point_of ps (s - p)) bound (HT (H (X ps))) (HT (H (Y ps))) (HT (H (Z ps))) (HT HW)
          (run j h e (λ c. c.x) (λ α a b. refl) (H (X ps)) (λ m l. (start-in m l).x))
          (run j h e (λ c. c.y) (λ α a b. refl) (H (Y ps)) (λ m l. (start-in m l).y))
          (run j h e (λ c. c.z) (λ α a b. refl) (H (Z ps)) (λ m l. (start-in m l).z))
          (run j h e (λ c. c.w) (λ α a b. refl) HW (λ m l. (start-in m l).w))
          (bound-in cut wh wh-low wh-high) first-finite)

    row_in : (j : Jet) → JetIn j t q1 q0 → (a : Result Interval DivideError) → Formed a (inv σ) → Good (net_by (P.point_of ps (s - p)) bound (row_by ps ws r (s - p) (P.point_of ps (s - p)) ks p s j a))
    unfolding deboor_of
    row_in j h (Ok q) k = levels-in q k j h (refusal_levels ks p s j 1 p) refl
    row_in j h (Err HoldsZero) k = tt
    row_in j h (Err Unbounded) k = absurd k

    range-is-in : Good (range_is p s ks ps ws r lo hi scale bound (new_of lo hi))
    unfolding new_of row_of
    range-is-in = go (le lo hi)
      where
        go : (x : Bool) → Good (range_is p s ks ps ws r lo hi scale bound (cond x (Some (record { lo = lo; hi = hi })) None))
        go true = row_in (parameter_of (record { lo = lo; hi = hi })) (param_in lo hi t Rv.lo-finite Rv.hi-finite from upto) (reciprocal_of (point_of scale)) (scale_in cut most-is.held)
        go false = tt

  pub span-bound-in : Good (span_bound p s ks ps ws r lo hi)
  unfolding span_bound weights_of
  span-bound-in =
      go (weights_of w (p + 1))
      (subst (λ k. Cuts (min_from (inf false) w (suc p)) (max_from zero+ w (suc p)) (weights_of w k)) (sym (add-one p))
      (range-in (min_from (inf false) w (suc p)) (max_from zero+ w (suc p)) least-is.held most-is.held (≤_trans wh-low wh-high)))
    where
      go : (A : Result Weights Refusal) → Cuts (min_from (inf false) w (suc p)) (max_from zero+ w (suc p)) A → Good (weights_are p s ks ps ws r lo hi A)
      go (Ok w) c = range-is-in w.scale w.bound c
      go (Err k) c = c

-- ---- the whole answer

-- bounds hold the exact point and its derivatives at each t of the range
pub bound-holds : (p : ℕ) (ks ps ws : List Float) (r : Bool) (lo hi : Float) → Holds p ks ps r ws lo hi (bound_of p ks ps r ws lo hi)
unfolding bound_of
bound-holds p ks ps ws r lo hi t from upto =
    let s = span_over p (count_of ps) ks lo hi in
    let e : ℕ → Three = λ k. at-t p ks (count_of ps) r ws s t (coordinate_value ps k) in
    let A = span_bound p s ks ps ws r lo hi in
    unless-in (curve_refusal p ks ps r ws) (unless (range_refusal p (count_of ps) s lo hi) (bounded_of A)) e
    (λ h. let Va = valid-curve p ks ps r ws h in
    unless-in (range_refusal p (count_of ps) s lo hi) (bounded_of A) e
    (λ k. let l = Va.knots.count in
    let v = span-valid p (count_of ps) ks lo hi (omega arith) k in
    boxed A e
    (span-bound-in p s ks ps ws r lo hi (valid-active Va v.span.first v.span.last)
    (record { lo-finite = v.lo-finite; hi-finite = v.hi-finite; forward = v.forward; taken = v.span.taken }) t from upto)))

-- bounds on a span that was asked for hold them too, whatever the rest of the curve is
pub step-holds : (p s : ℕ) (ks ps ws : List Float) (r : Bool) (lo hi : Float) → HoldsOn p s ks (count_of ps) r ws lo hi (coordinate_value ps) (bound_at p s ks ps r ws lo hi)
unfolding bound_at
step-holds p s ks ps ws r lo hi t from upto =
    let e : ℕ → Three = λ k. at-t p ks (count_of ps) r ws s t (coordinate_value ps k) in
    unless-in (start_refusal p s ks ps r ws lo hi) (bounded_of (span_bound p s ks ps ws r lo hi)) e
    (λ k. let v = started p s ks ps r ws lo hi k in
    boxed (span_bound p s ks ps ws r lo hi) e (span-bound-in p s ks ps ws r lo hi v.active v.ranged t from upto))

-- on a span of a valid curve that contains the range, the step's answer is the bounds on it
pub step_is : (p s : ℕ) (ks ps ws : List Float) (r : Bool) (lo hi : Float) → ValidCurve p ks ps r ws
    → bound_at p s ks ps r ws lo hi ≡ unless (range_refusal p (count_of ps) (cond (leb p s && ltb s (count_of ps)) (taken_span s (count_of ps) ks lo hi) (count_of ps)) lo hi)
    (bounded_of (span_bound p s ks ps ws r lo hi))
unfolding bound_at
step_is p s ks ps ws r lo hi Va = rw (start-valid p s ks ps r ws lo hi Va)

-- on the span that bound_curve takes, the step's answer for a valid curve is bound_curve's
pub step-is-bound : (p : ℕ) (ks ps ws : List Float) (r : Bool) (lo hi : Float) → (curve_refusal p ks ps r ws).number ≡ 0
    → bound_at p (span_over p (count_of ps) ks lo hi) ks ps r ws lo hi ≡ bound_of p ks ps r ws lo hi
unfolding bound_of
step-is-bound p ks ps ws r lo hi h =
    let Va = valid-curve p ks ps r ws h in
    step_is p (span_over p (count_of ps) ks lo hi) ks ps ws r lo hi Va
    ∙ rw (eq-eqb (curve_refusal p ks ps r ws).number 0 h, taken-first p (count_of ps) ks lo hi (let l = Va.knots.count in omega arith))
