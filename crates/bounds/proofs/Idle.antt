-- No bound of a curve or a surface refuses with 28 or 29: an interval that holds an exact fraction has its ends in order, so that each cut is made and each quotient formed. Assumes nothing.
use mathlib.Core.Path.{◌≡◌, refl, subst}
use mathlib.Core.Bool.{Bool, true, false, not, ◌&&◌, ◌||◌, cond}
use mathlib.Core.List.{List}
use Prim.Native.Nat.{ℕ, ◌+◌, ◌*◌, ◌%◌}
use native.Mathlib.Omega.{arith}
use lib.Dec.{eqb, ltb, leb}
use lib.ListN.{length}
use lib.Ieee.{Float, binary64, lt, le, sub}
use lib.Ieee.Scale.{finite}
use borrow.Author.Tests.{eqb-true}
use Rattle.exact.proofs.Field.{≤-refl}
use Rattle.doubles.specs.Run.{at}
use Rattle.doubles.specs.Value.{val}
use Rattle.knots.specs.Refusal.{refuse, accepted, placed, or_else, along}
use Rattle.knots.specs.declared.refusal.Reason.TheVariants.{DegreeZero, FewPoints, KnotCount, KnotsUnordered, DomainEmpty, DomainWide, KnotRepeated, PointNotFinite}
use Rattle.knots.specs.declared.refusal.Reason.TheVariants.{WeightCount, WeightBad, NetSize, RangeBad, RangeInNoSpan, LengthBad, DegreeHigh, PointsUneven}
use Rattle.knots.specs.Knots.{all_finite, ordered, apart, order_refusal, knot_refusal}
use Rattle.knots.specs.Curve.{count_of, over_long, any_long, all_weights, control_refusal, formed_refusal, curve_refusal}
use Rattle.knots.specs.Shape.{weight_shape, knot_shape, curve_shape}
use Rattle.knots.specs.Surface.{net_refusal, surface_refusal}
use Rattle.knots.specs.declared.refusal.Refusal.{Refusal}
use Rattle.knots.proofs.Refusals.{row-both}
use Rattle.knots.proofs.Curves.{valid-curve}
use Rattle.knots.proofs.Surfaces.{valid-surface}
use Rattle.bounds.specs.Answer.{bounded_of}
use Rattle.bounds.specs.Numbers.{bounded_refusal}
use Rattle.bounds.specs.Holds.{NotIdle}
use Rattle.ranges.specs.Range.{span_over, taken_span, range_refusal}
use Rattle.ranges.specs.Read.{read_refusal, place_refusal, start_refusal}
use Rattle.jets.specs.Three.{Three}
use Rattle.bounds.specs.Curve.{span_bound, unless, bound_of, bound_at}
use Rattle.bounds.specs.Surface.{ranges_refusal, spans_bound, bounded_by, surface_of}
use Rattle.jets.proofs.NetIn.{Neither}
use Rattle.jets.proofs.CartesianIn.{Boxes}
use Rattle.ranges.proofs.SpanIn.{span-valid}
use Rattle.bounds.proofs.Active.{valid-active, started}
use Rattle.bounds.proofs.CurveHolds.{span-bound-in}
use Rattle.bounds.proofs.SpansIn.{ranges-valid}
use Rattle.bounds.proofs.SurfaceHolds.{spans-bound-in}
use Rattle.std.specs.Prelude.{Result, Ok, Err}
use Rattle.jets.specs.declared.cartesian.Bounds.{Bounds}
use Rattle.bounds.specs.declared.answer.NurbsBounds.{NurbsBounds}

-- ---- what is refused before the steps

-- a refusal that is neither
abbrev pub Other : Refusal → Type 0
Other r = Neither r.number

pub or_else-other : (a b : Refusal) → Other a → Other b → Other (or_else a b)
or_else-other a b h k = row-both Other (eqb a.number 0) b a k h

range_other : (p n s : ℕ) (lo hi : Float) → Other (range_refusal p n s lo hi)
unfolding range_refusal
range_other p n s lo hi =
    row-both Other (ltb 64 p) (refuse DegreeHigh) _ tt
    (row-both Other (not (finite lo)) (refuse RangeBad) _ tt
    (row-both Other (not (finite hi)) (refuse RangeBad) _ tt
    (row-both Other (lt hi lo) (refuse RangeBad) _ tt
    (row-both Other (eqb s n) (refuse RangeInNoSpan) accepted tt tt))))

-- of a span that was asked for: 30, 32, 1, 2, 3, 9, 4, 8, 10, 31, 24, 25
shape-other : (p : ℕ) (ks ps : List Float) (g : Bool) (ws : List Float) → Other (curve_shape p ks ps g ws)
unfolding curve_shape knot_shape weight_shape
shape-other p ks ps g ws =
    row-both Other (not (eqb (length ps % 3) 0)) (refuse PointsUneven) _ tt
    (or_else-other (knot_shape p (count_of ps) ks) (weight_shape (count_of ps) g ws)
    (row-both Other (eqb p 0) (refuse DegreeZero) _ tt
    (row-both Other (leb (count_of ps) p) (refuse FewPoints) _ tt
    (row-both Other (not (eqb (length ks) (count_of ps + p + 1))) (refuse KnotCount) accepted tt tt)))
    (row-both Other (g && not (eqb (length ws) (count_of ps))) (refuse WeightCount) accepted tt tt))

read-other : (p s : ℕ) (ks ps : List Float) (g : Bool) (ws : List Float) → Other (read_refusal p s ks ps g ws)
unfolding read_refusal
read-other p s ks ps g ws =
    row-both Other (not (ordered _)) (placed _ (refuse KnotsUnordered)) _ tt
    (row-both Other (not (all_finite _)) (placed _ (refuse PointNotFinite)) _ tt
    (row-both Other (g && not (all_weights _)) (placed _ (refuse WeightBad)) accepted tt tt))

start-other : (p s : ℕ) (ks ps : List Float) (g : Bool) (ws : List Float) (lo hi : Float) → Other (start_refusal p s ks ps g ws lo hi)
unfolding start_refusal place_refusal
start-other p s ks ps g ws lo hi =
    let n = count_of ps in
    row-both Other (any_long ks ps g ws) (refuse LengthBad) _ tt
    (or_else-other (curve_shape p ks ps g ws) (place_refusal p s ks ps g ws lo hi) (shape-other p ks ps g ws)
    (row-both Other (leb p s && ltb s n) (or_else (read_refusal p s ks ps g ws) (range_refusal p n (taken_span s n ks lo hi) lo hi)) (range_refusal p n n lo hi)
    (or_else-other (read_refusal p s ks ps g ws) (range_refusal p n (taken_span s n ks lo hi) lo hi) (read-other p s ks ps g ws) (range_other p n (taken_span s n ks lo hi) lo hi))
    (range_other p n n lo hi)))

-- of a curve: 30, 32, 1 to 10
knots-other : (p n : ℕ) (ks : List Float) → Other (knot_refusal p n ks)
unfolding knot_refusal order_refusal
knots-other p n ks =
    row-both Other (eqb p 0) (refuse DegreeZero) _ tt
    (row-both Other (leb n p) (refuse FewPoints) _ tt
    (row-both Other (not (eqb (length ks) (n + p + 1))) (refuse KnotCount) _ tt
    (row-both Other (not (ordered ks)) (placed _ (refuse KnotsUnordered)) _ tt
    (row-both Other (le (at ks n) (at ks p)) (refuse DomainEmpty) _ tt
    (row-both Other (not (finite (sub binary64 (at ks n) (at ks p)))) (refuse DomainWide) _ tt
    (row-both Other (not (apart (p + 1) ks)) (placed _ (refuse KnotRepeated)) accepted tt tt))))))

controls-other : (n : ℕ) (ps : List Float) (g : Bool) (ws : List Float) → Other (control_refusal n ps g ws)
unfolding control_refusal
controls-other n ps g ws =
    row-both Other (not (all_finite ps)) (placed _ (refuse PointNotFinite)) _ tt
    (row-both Other (g && not (eqb (length ws) n)) (refuse WeightCount) _ tt
    (row-both Other (g && not (all_weights ws)) (placed _ (refuse WeightBad)) accepted tt tt))

pub curve-other : (p : ℕ) (ks ps : List Float) (g : Bool) (ws : List Float) → Other (curve_refusal p ks ps g ws)
unfolding curve_refusal formed_refusal
curve-other p ks ps g ws =
    row-both Other (any_long ks ps g ws) (refuse LengthBad) _ tt
    (row-both Other (not (eqb (length ps % 3) 0)) (refuse PointsUneven) _ tt
    (or_else-other (knot_refusal p (count_of ps) ks) (control_refusal (count_of ps) ps g ws) (knots-other p (count_of ps) ks) (controls-other (count_of ps) ps g ws)))

-- of a surface: 30, 32, 11, 1 to 10; and of its ranges
surface-other : (p q : ℕ) (us vs : List Float) (m n : ℕ) (ps : List Float) (g : Bool) (ws : List Float) → Other (surface_refusal p q us vs m n ps g ws)
unfolding surface_refusal net_refusal
surface-other p q us vs m n ps g ws =
    or_else-other (net_refusal us vs m n ps g ws) _
    (row-both Other (over_long true us || any_long vs ps g ws) (refuse LengthBad) _ tt
    (row-both Other (not (eqb (length ps % 3) 0)) (refuse PointsUneven) _ tt
    (row-both Other (not (eqb (count_of ps) (m * n))) (refuse NetSize) accepted tt tt)))
    (or_else-other (along 0 (knot_refusal p m us)) _ (knots-other p m us)
    (or_else-other (along 1 (knot_refusal q n vs)) (control_refusal (count_of ps) ps g ws) (knots-other q n vs) (controls-other (count_of ps) ps g ws)))

ranges-other : (p q nu nv us vs : ℕ) (ulo uhi vlo vhi : Float) → Other (ranges_refusal p q nu nv us vs ulo uhi vlo vhi)
unfolding ranges_refusal
ranges-other p q nu nv us vs ulo uhi vlo vhi =
    row-both Other (ltb 64 q) (refuse DegreeHigh) _ tt
    (or_else-other (range_refusal p nu us ulo uhi) (range_refusal q nv vs vlo vhi) (range_other p nu us ulo uhi) (range_other q nv vs vlo vhi))

-- ---- the whole answer

pub idle : (n : ℕ) → Neither n → NotIdle n
idle n h = record { not-28 = λ e. subst Neither e h; not-29 = λ e. subst Neither e h }

steps-other : (A : Result Bounds Refusal) (X Y Z : Three) → Boxes A X Y Z → Other (bounded_refusal (bounded_of A))
steps-other (Ok b) X Y Z h = tt
steps-other (Err n) X Y Z h = h

unless-other : (f : Refusal) (A : Result NurbsBounds Refusal) → Other f → (f.number ≡ 0 → Other (bounded_refusal A)) → Other (bounded_refusal (unless f A))
unless-other f A h k = go (eqb f.number 0) (eqb-true f.number 0)
  where
    go : (b : Bool) → (b ≡ true → f.number ≡ 0) → Other (bounded_refusal (cond b A (Err f)))
    go true e = k (e refl)
    go false e = h

-- bound_span: the boxes at the low end of the range say it
pub step-idle : (p s : ℕ) (ks ps ws : List Float) (r : Bool) (lo hi : Float) → NotIdle (bounded_refusal (bound_at p s ks ps r ws lo hi)).number
unfolding bound_at
step-idle p s ks ps ws r lo hi = idle _
    (unless-other (start_refusal p s ks ps r ws lo hi) (bounded_of (span_bound p s ks ps ws r lo hi)) (start-other p s ks ps r ws lo hi)
    (λ k. let v = started p s ks ps r ws lo hi k in
    steps-other (span_bound p s ks ps ws r lo hi) _ _ _ (span-bound-in p s ks ps ws r lo hi v.active v.ranged (val lo) (≤-refl (val lo)) v.ranged.forward)))

pub bound-idle : (p : ℕ) (ks ps ws : List Float) (r : Bool) (lo hi : Float) → NotIdle (bounded_refusal (bound_of p ks ps r ws lo hi)).number
unfolding bound_of
bound-idle p ks ps ws r lo hi =
    let s = span_over p (count_of ps) ks lo hi in
    let A = span_bound p s ks ps ws r lo hi in
    let range = range_refusal p (count_of ps) s lo hi in
    idle _
    (unless-other (curve_refusal p ks ps r ws) (unless range (bounded_of A)) (curve-other p ks ps r ws)
    (λ h. let Va = valid-curve p ks ps r ws h in
    unless-other range (bounded_of A) (range_other p (count_of ps) s lo hi)
    (λ k. let l = Va.knots.count in
    let v = span-valid p (count_of ps) ks lo hi (omega arith) k in
    steps-other A _ _ _ (span-bound-in p s ks ps ws r lo hi (valid-active Va v.span.first v.span.last)
    (record { lo-finite = v.lo-finite; hi-finite = v.hi-finite; forward = v.forward; taken = v.span.taken }) (val lo) (≤-refl (val lo)) v.forward))))

pub surface-idle : (p q : ℕ) (uk vk : List Float) (nu nv : ℕ) (ps ws : List Float) (r : Bool) (ulo uhi vlo vhi : Float) → NotIdle (bounded_refusal (surface_of p q uk vk nu nv ps r ws ulo uhi vlo vhi)).number
unfolding surface_of bounded_by
surface-idle p q uk vk nu nv ps ws r ulo uhi vlo vhi =
    let us = span_over p nu uk ulo uhi in
    let vs = span_over q nv vk vlo vhi in
    let A = spans_bound p q us vs uk vk nv ps ws r ulo uhi vlo vhi in
    let ranges = ranges_refusal p q nu nv us vs ulo uhi vlo vhi in
    idle _
    (unless-other (surface_refusal p q uk vk nu nv ps r ws) (unless ranges (bounded_of A)) (surface-other p q uk vk nu nv ps r ws)
    (λ h. let Va = valid-surface p q uk vk nu nv ps r ws h in
    unless-other ranges (bounded_of A) (ranges-other p q nu nv us vs ulo uhi vlo vhi)
    (λ k. let b = ranges-valid p q uk vk nu nv ulo uhi vlo vhi Va.u Va.v k in
    steps-other A _ _ _ (spans-bound-in p q us vs uk vk nu nv ps ws r ulo uhi vlo vhi Va b.0 b.1 (val ulo) (val vlo) (≤-refl (val ulo)) b.0.forward (≤-refl (val vlo)) b.1.forward))))
