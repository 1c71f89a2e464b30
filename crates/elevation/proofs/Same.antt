-- A curve that `elevate_degree` forms is the curve it was raised from: at every parameter of the domain the exact point of the raised curve is the exact point there was.
-- Its knots are not rounded; its exact controls are the segments of the extracted curve, raised and joined over fractions.
-- Assumes nothing.
use Prim.Native.Nat.{ℕ, suc, ◌+◌, ◌-◌, ◌*◌, ◌≤◌, ◌<◌}
use mathlib.Core.Bool.{Bool, true, not, cond}
use mathlib.Core.Path.{◌≡◌, refl, sym, ◌∙◌, ap, subst}
use mathlib.Core.List.{List, [], ◌∷◌}
use native.Mathlib.Omega.{arith}
use borrow.Author.Tests.{ne_eqb}
use lib.ListN.{length}
use lib.Ieee.{Float, lt}
use lib.Ieee.Scale.{finite}
use Rattle.exact.specs.Rational.{ℚ, q0, ◌≤q◌, ◌<q◌}
use Rattle.exact.specs.Spline.{exact}
use Rattle.exact.specs.Boehm.{SpanOf, InSpan, InEnd, Insert, refined_all, inserted_all, inserted_point_all}
use Rattle.exact.specs.Bernstein.{Segment}
use Rattle.exact.proofs.Field.{≤_trans, ≤-<-trans, <-≤-trans}
use Rattle.exact.proofs.Refined.{one_span, one_end}
use Rattle.exact.proofs.Spans.{span-in, span-end}
use Rattle.exact.proofs.Elevation.{elevation-same, elevation-same-end}
use Rattle.doubles.specs.Run.{at, val_at}
use Rattle.doubles.specs.Value.{val}
use Rattle.knots.specs.Below.{all_below}
use Rattle.knots.specs.Refusal.{refuse}
use Rattle.knots.specs.declared.refusal.Reason.TheVariants.{ControlBad, EditBad}
use Rattle.knots.specs.Knots.{ValidKnots}
use Rattle.knots.specs.Curve.{count_of, ValidCurve}
use Rattle.knots.proofs.Refusals.{or_else-none, passed}
use Rattle.knots.proofs.Curves.{valid-formed}
use Rattle.knots.proofs.Fractions.{in_order, table-span, table-end}
use Rattle.edits.specs.Control.{is_lifted}
use Rattle.edits.specs.Counts.{bit, multiplicity_of}
use Rattle.insertion.specs.Fold.{insert_all}
use Rattle.edits.specs.Outcome.{Outcome, gives, refuses}
use Rattle.edits.specs.Whole.{given_of}
use Rattle.edits.specs.Start.{clamped_ends, edit_start}
use Rattle.insertion.specs.Placed.{placed, Each}
use Rattle.runs.specs.Fraction.{weight_value, coordinate_value}
use Rattle.insertion.proofs.KnotCounts.{multiplicity-low, multiplicity-high, below-room}
use Rattle.insertion.proofs.ListResult.{each_map, by_number, Made, made, made-low, made-high, made-clamped}
use Rattle.edits.proofs.Starting.{edit-open}
use Rattle.insertion.proofs.ExactList.{placed-long, Placed, placed-all, weight-above}
use Rattle.elevation.specs.Breaks.{breaks_of, is_full, missing_all}
use Rattle.elevation.specs.Elevate.{raised_count, raised_knots, extracted, extracted_count, raised_controls, all_blended, raised_points, raised_weights, raised_refusal}
use Rattle.elevation.specs.Elevate.{raised_outcome, after_extraction, raise_all}
use Rattle.elevation.specs.Joined.{raised_weight_at, raised_point_at}
use Rattle.elevation.specs.Whole.{raise_start, elevated, elevate_start, elevate_outcome}
use Rattle.elevation.proofs.Breaks.{IsBreak, Rising, breaks-are, distinct}
use Rattle.elevation.proofs.Missing.{extracted-count, extraction-full}
use Rattle.elevation.proofs.KnotWalks.{raised-count}
use Rattle.elevation.proofs.Joints.{joints}
use Rattle.elevation.proofs.Stands.{OnKnots, controls-first}
use Rattle.elevation.proofs.Full.{Rise, OnFull}
use Rattle.elevation.proofs.Spans.{AllOnes, At, ones, find, find-end}
use Rattle.elevation.proofs.RaisedKnots.{knots-first, last-knot, raised-times}

-- the breaks, each full in ks₁
rise-of : (p n : ℕ) (ks : List Float) (m : ℕ) (ks₁ : List Float) (v : ValidKnots p m ks₁) (H : finite (at ks n) ≡ true) (f : multiplicity_of ks₁ (at ks n) ≡ p + 1) (a : Float) (bs : List Float)
    → lt a (at ks n) ≡ true → Each (λ u. lt a u ≡ true) bs → Rising bs → Each (IsBreak p n ks) bs → Each (λ t. multiplicity_of ks₁ t ≡ p + 1) bs → Rise p m ks₁ v (at ks n) H f a bs
rise-of p n ks m ks₁ v H f a [] b A R B F = b
rise-of p n ks m ks₁ v H f a (t ∷ bs) b A R B F = (A.0, B.0.number, F.0, rise-of p n ks m ks₁ v H f t bs B.0.high R.0 R.1 B.1 F.1)

-- t is in the span that a segment is
module _ {U : ℕ → ℚ} {a z : ℚ} {p b : ℕ} (G : Segment U a z p b) (some : 0 < p) where
  end_of : U (suc (b + p)) ≡ z
  end_of = let x : suc (b + p) ≡ b + suc p = omega arith in ap U x ∙ G.right (suc p) (omega arith) (omega arith)

  segment-in : {t : ℚ} → a ≤q t → t <q z → InSpan U (b + p) t
  segment-in {t} x y = record { from = subst (λ q. q ≤q t) (sym (G.left p some (omega arith))) x; to = subst (λ q. t <q q) (sym end_of) y }

  segment-end : {t : ℚ} → a <q t → t ≤q z → InEnd U (b + p) t
  segment-end {t} x y = record { from = subst (λ q. q <q t) (sym (G.left p some (omega arith))) x; to = subst (λ q. t ≤q q) (sym end_of) y }

module _ (p : ℕ) (ks ps : List Float) (g : Bool) (ws : List Float) (e a b c d : ℕ) (ke pe we : List Float) (up : p < e) (E : elevate_outcome p ks ps g ws e a b c d ≡ gives ke pe we) where
  abbrev n : ℕ
  n = count_of ps

  abbrev bs : List Float
  bs = breaks_of p n ks

  -- what is inserted, and the exact insertions
  abbrev ts : List Float
  ts = missing_all p ks bs

  abbrev l : List Insert
  l = placed p n ks ts

  -- the points of the extracted and of the raised curve
  abbrev after : ℕ
  after = n + length ts

  abbrev m : ℕ
  m = raised_count p e ks bs

  -- ---- no refusal: the table is valid, the fold gives a curve, and ke is the raised knots
  pub record Formed : Type 0 where
    pub curve : ValidCurve p ks ps g ws
    pub clamped : clamped_ends p n ks ≡ true
    pub knots : List Float
    pub points : List Float
    pub weights : List Float
    pub fold : insert_all p g n ks ps (given_of g ws) ts ≡ gives knots points weights
    pub valid : ValidKnots e m (raised_knots p e n ks bs)
    pub raised : raised_knots p e n ks bs ≡ ke

  raised-valid : (ps' ws' : List Float) → (raised_refusal p e n ks bs g ps' ws').number ≡ 0 → ValidKnots e m (raised_knots p e n ks bs)
  unfolding raised_refusal
  raised-valid ps' ws' z =
      let x = passed (not (all_below (λ i. is_lifted (extracted p e n ks bs g ps' ws' i)) (extracted_count p bs))) (refuse ControlBad) _ (λ q. omega arith) z in
      let y = passed (not (all_blended (raised_controls p e n ks bs g ps' ws'))) (refuse EditBad) _ (λ q. omega arith) x.1 in
      (valid-formed e m (raised_knots p e n ks bs) (raised_points p e n ks bs g ps' ws') g (raised_weights p e n ks bs g ps' ws') y.1).0

  formed : Formed
  unfolding elevate_outcome elevate_start elevated raise_all raised_outcome
  formed =
      let R = elevate_start p ks ps g ws e a b c d in
      by_number R.number (λ y. cond y (elevated p ks ps g ws e) (refuses R) ≡ gives ke pe we → Formed)
      (λ z h. go (edit-open p ks ps g ws (or_else-none (edit_start p ks ps g ws) (raise_start p e n ks g a b c d) z).0) (insert_all p g n ks ps (given_of g ws) ts) refl
      (ap (λ (y : Bool). cond y (gives ks ps (given_of g ws)) (raise_all p e n ks ps g (given_of g ws) bs)) (sym (ne_eqb e p (λ q. omega arith))) ∙ h))
      (λ z h. let q : ◌≡◌ {A = ℕ} 0 1 = cc in absurd (omega arith)) E
    where
      go : ValidCurve p ks ps g ws × (clamped_ends p n ks ≡ true) → (o : Outcome) → insert_all p g n ks ps (given_of g ws) ts ≡ o
          → after_extraction (raised_outcome p e n ks bs g) o ≡ gives ke pe we → Formed
      go v (refuses r) k h = let q : ◌≡◌ {A = ℕ} 0 1 = cc in absurd (omega arith)
      go v (gives ks' ps' ws') k h =
          let R = raised_refusal p e n ks bs g ps' ws' in
          by_number R.number (λ y. cond y (gives (raised_knots p e n ks bs) (raised_points p e n ks bs g ps' ws') (raised_weights p e n ks bs g ps' ws')) (refuses R) ≡ gives ke pe we → Formed)
          (λ y j. record { curve = v.0; clamped = v.1; knots = ks'; points = ps'; weights = ws'; fold = k; valid = raised-valid ps' ws' y; raised = cc })
          (λ y j. let q : ◌≡◌ {A = ℕ} 0 1 = cc in absurd (omega arith)) h

  F : Formed
  F = formed

  v : ValidKnots p n ks
  v = F.curve.knots

  abbrev ks' : List Float
  ks' = F.knots

  pub elevated-valid : ValidKnots e m ke
  elevated-valid = subst (ValidKnots e m) F.raised F.valid

  -- ---- the extracted curve
  M : Made p g n ks ps (given_of g ws) ts ks' F.points F.weights
  M = made p g n ks ps (given_of g ws) ts ks' F.points F.weights v F.fold

  D : Placed p n ks ts ks'
  D = placed-all p g n ks ps (given_of g ws) ts ks' F.points F.weights v F.fold

  order : (i j : ℕ) → i ≤ j → j < after + suc p → refined_all (val_at ks) l i ≤q refined_all (val_at ks) l j
  order = subst (λ (W : ℕ → ℚ). (i j : ℕ) → i ≤ j → j < after + suc p → W i ≤q W j) D.knots (in_order p after ks' M.valid)

  clamped-after : clamped_ends p after ks' ≡ true
  clamped-after = made-clamped p g n ks ps (given_of g ws) ts ks' F.points F.weights v M ∙ F.clamped

  full-low : multiplicity_of ks' (at ks p) ≡ p + 1
  full-low = subst (λ (x : Float). multiplicity_of ks' x ≡ p + 1) (made-low p g n ks ps (given_of g ws) ts ks' F.points F.weights v M) (multiplicity-low p after ks' M.valid clamped-after)

  full-high : multiplicity_of ks' (at ks n) ≡ p + 1
  full-high = subst (λ (x : Float). multiplicity_of ks' x ≡ p + 1) (made-high p g n ks ps (given_of g ws) ts ks' F.points F.weights v M) (multiplicity-high p after ks' M.valid clamped-after)

  low-number : finite (at ks p) ≡ true
  low-number = let L = v.long in v.finites p (omega arith)

  high-number : finite (at ks n) ≡ true
  high-number = let L = v.long in v.finites n (omega arith)

  full : OnFull p after ks' M.valid (at ks n) high-number full-high (at ks p) 0 bs
  full =
      let B = breaks-are p n ks v F.clamped in
      record {
        number = low-number;
        full = full-low;
        rise = rise-of p n ks after ks' M.valid high-number full-high (at ks p) bs v.domain (each_map (IsBreak p n ks) (λ u. lt (at ks p) u ≡ true) (λ u x. x.low) bs B) (distinct p n ks v) B
            (extraction-full p n ks v F.clamped g ps (given_of g ws) ks' F.points F.weights F.fold);
        from = omega arith;
        total = omega (arith, below-room ks' (at ks n), M.valid.long, full-high, extracted-count p n ks v F.clamped);
      }

  -- ---- coordinate k of the exact point at t, each curve on its own span of t
  module _ (k : ℕ) where
    abbrev c₀ : ℕ → ℚ
    c₀ = coordinate_value ps k

    -- the weights and the coordinate of the extracted curve, and of the raised one
    abbrev w₁ : ℕ → ℚ
    w₁ = inserted_all (val_at ks) p l (weight_value g ws)

    abbrev c₁ : ℕ → ℚ
    c₁ = inserted_point_all (val_at ks) p l (weight_value g ws) c₀

    abbrev w₂ : ℕ → ℚ
    w₂ = raised_weight_at p e ks bs w₁

    abbrev c₂ : ℕ → ℚ
    c₂ = raised_point_at p e ks bs w₁ c₁

    first : At p e up g ks after ks' M.valid (at ks n) high-number full-high ke m w₁ c₁ bs (at ks p) 0 0 bs
    first = record {
      knots = subst (λ (xs : List Float). OnKnots p e ks (at ks n) xs (at ks p) 0 bs) F.raised (knots-first p e n ks bs);
      full = full;
      weights = controls-first p e ks _ q0 bs;
      points = controls-first p e ks _ q0 bs;
      joints = joints p g ks bs (distinct p n ks v) n ks ps (given_of g ws) ks' F.points F.weights v
          (each_map (IsBreak p n ks) (λ u. multiplicity_of ks u ≡ multiplicity_of ks u) (λ u x. refl) bs (breaks-are p n ks v F.clamped)) F.fold (weight_value g ws) c₀;
      room = omega (arith, raised-count p e ks bs);
    }

    segments : AllOnes p e up g ks after ks' M.valid (at ks n) high-number full-high ke m w₁ c₁ bs (at ks p) 0 0 bs
    segments = ones p e up g ks after ks' M.valid (at ks n) high-number full-high ke m w₁ c₁ bs (at ks p) 0 0 bs first

    module _ {s s₀ : ℕ} (S : SpanOf (val_at ke) e m s) (S₀ : SpanOf (val_at ks) p n s₀) where
      pub elevated-same : {t : ℚ} → InSpan (val_at ks) s₀ t → InSpan (val_at ke) s t → exact (val_at ke) t s e m w₂ c₂ ≡ exact (val_at ks) t s₀ p n (weight_value g ws) c₀
      unfolding raised_weight_at raised_point_at
      elevated-same {t} I J =
          let some = v.degree in
          let x = S₀.first in
          let y = S₀.last in
          let q = S.last in
          let O = find p e up g ks after ks' M.valid (at ks n) high-number full-high ke m w₁ c₁ bs t (at ks p) 0 0 bs segments
          (≤_trans (S₀.knots.mono p s₀ x (omega arith)) I.from) (<-≤-trans I.to (S₀.knots.mono (suc s₀) n y (omega arith))) in
          let o = O.one.last in
          let G = subst (λ (W : ℕ → ℚ). Segment W (val O.a) (val O.z) p (O.j * (p + 1))) D.knots O.one.thin in
          let same : O.st + e ≡ s = one_span S.knots.mono (omega arith) (omega arith) (segment-in O.one.wide (omega arith) O.from O.to) J in
          elevation-same l (val_at ks) n (omega (arith, placed-long p n ks ts)) D.fits (span-in order (omega arith) O.one.inner (segment-in G some O.from O.to)) S₀ t (weight_value g ws) c₀
          (weight-above n ps g ws F.curve.controls) some G refl (e - p) (omega arith) O.one.wide same q w₂ c₂ O.one.weights O.one.points I J

      -- at the right end both are on the span that ends there: the limit from inside
      pub elevated-same-end : {t : ℚ} → InEnd (val_at ks) s₀ t → InEnd (val_at ke) s t → exact (val_at ke) t s e m w₂ c₂ ≡ exact (val_at ks) t s₀ p n (weight_value g ws) c₀
      unfolding raised_weight_at raised_point_at
      elevated-same-end {t} I J =
          let some = v.degree in
          let x = S₀.first in
          let y = S₀.last in
          let q = S.last in
          let O = find-end p e up g ks after ks' M.valid (at ks n) high-number full-high ke m w₁ c₁ bs t (at ks p) 0 0 bs segments
          (≤-<-trans (S₀.knots.mono p s₀ x (omega arith)) I.from) (≤_trans I.to (S₀.knots.mono (suc s₀) n y (omega arith))) in
          let o = O.one.last in
          let G = subst (λ (W : ℕ → ℚ). Segment W (val O.a) (val O.z) p (O.j * (p + 1))) D.knots O.one.thin in
          let same : O.st + e ≡ s = one_end S.knots.mono (omega arith) (omega arith) (segment-end O.one.wide (omega arith) O.from O.to) J in
          elevation-same-end l (val_at ks) n (omega (arith, placed-long p n ks ts)) D.fits
          (span-end order (omega arith) O.one.inner (segment-end G some O.from O.to)) S₀ t (weight_value g ws) c₀
          (weight-above n ps g ws F.curve.controls) some G refl (e - p) (omega arith) O.one.wide same q w₂ c₂ O.one.weights O.one.points I J

  -- ---- each parameter of the domain has its span in both: the raised knots have the same domain
  low_same : val_at ke e ≡ val_at ks p
  low_same =
      let x : e ≡ 0 + e = omega arith in
      ap (val_at ke) x ∙ ap val ((subst (λ (xs : List Float). OnKnots p e ks (at ks n) xs (at ks p) 0 bs) F.raised (knots-first p e n ks bs)).here e (omega arith) (omega arith))

  high_same : val_at ke m ≡ val_at ks n
  high_same = ap val (subst (λ (xs : List Float). at xs m ≡ at ks n) F.raised (last-knot p e n ks bs))

  module _ (t : ℚ) where
    pub elevated-span : val_at ks p ≤q t → t <q val_at ks n → ((s : ℕ) × SpanOf (val_at ke) e m s × InSpan (val_at ke) s t) × ((s₀ : ℕ) × SpanOf (val_at ks) p n s₀ × InSpan (val_at ks) s₀ t)
    elevated-span x y = (
      table-span e m ke elevated-valid t (subst (λ (q : ℚ). q ≤q t) (sym low_same) x) (subst (λ (q : ℚ). t <q q) (sym high_same) y),
      table-span p n ks v t x y,
    )

    pub elevated-end : val_at ks p <q t → t ≤q val_at ks n → ((s : ℕ) × SpanOf (val_at ke) e m s × InEnd (val_at ke) s t) × ((s₀ : ℕ) × SpanOf (val_at ks) p n s₀ × InEnd (val_at ks) s₀ t)
    elevated-end x y = (
      table-end e m ke elevated-valid t (subst (λ (q : ℚ). q <q t) (sym low_same) x) (subst (λ (q : ℚ). t ≤q q) (sym high_same) y),
      table-end p n ks v t x y,
    )

  -- a break stands e times among the raised knots, and once more where it was full
  pub elevated-times : Each (λ u. multiplicity_of ke u ≡ e + bit (is_full p ks u)) bs
  elevated-times = subst (λ (xs : List Float). Each (λ u. multiplicity_of xs u ≡ e + bit (is_full p ks u)) bs) F.raised (raised-times p e n ks v F.clamped)
