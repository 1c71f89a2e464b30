-- A curve that `trim` forms is the curve it was cut from: its knots are those of the exact insertions from lo to hi, degree + 1 times each at the ends, and at every
-- parameter of the range the exact point of the cut is the exact point there was.
-- Assumes nothing.
use Prim.Native.Nat.{ℕ, suc, ◌+◌, ◌*◌, ◌≤◌, ◌<◌}
use mathlib.Core.Bool.{Bool, cond}
use mathlib.Core.Path.{◌≡◌, refl, sym, ◌∙◌, ap, subst}
use mathlib.Core.List.{List}
use native.Mathlib.Omega.{arith}
use native.Mathlib.Nat.{add-zero}
use lib.ListN.{length, take, drop}
use lib.Ieee.{Float}
use Rattle.exact.specs.Rational.{ℚ, ◌≤q◌, ◌<q◌}
use Rattle.exact.specs.Spline.{exact}
use Rattle.exact.specs.Boehm.{SpanOf, InSpan, InEnd, Insert, Fits, refined_all, inserted_all, inserted_point_all, cut}
use Rattle.exact.proofs.Field.{≤_trans, ≤-<-trans, <-≤-trans}
use Rattle.exact.proofs.Spans.{span-in, span-end, in-same, end_same, exact_same}
use Rattle.exact.proofs.Cut.{trim_same, trim-same-end}
use Rattle.doubles.specs.Run.{at, val_at}
use Rattle.doubles.specs.Value.{val}
use Rattle.doubles.proofs.TestFacts.{T_of, Tn-of}
use Rattle.doubles.proofs.Value.{val-le}
use Rattle.knots.specs.Knots.{ValidKnots}
use Rattle.knots.specs.Curve.{count_of}
use Rattle.knots.proofs.Fractions.{in_order, table-span, table-end}
use Rattle.edits.specs.Counts.{below_of}
use Rattle.edits.specs.Rows.{given}
use Rattle.insertion.specs.Fold.{insert_all}
use Rattle.edits.specs.Outcome.{Outcome, gives, refuses}
use Rattle.edits.specs.Whole.{given_of}
use Rattle.insertion.specs.Placed.{placed}
use Rattle.runs.specs.Fraction.{weight_value, coordinate_value}
use Rattle.insertion.proofs.ListResult.{by_number}
use Rattle.insertion.proofs.Repeated.{Cut}
use Rattle.insertion.proofs.EqualKnots.{equal-value}
use Rattle.insertion.proofs.ExactList.{placed-long, Placed, placed-all, weight-above}
use Rattle.trimming.specs.Trim.{ends_of, kept_of, cut_refusal, cut_curve, cut_of, trim_start, trim_outcome}
use Rattle.trimming.proofs.Ranges.{Range, Open, start-open}
use Rattle.trimming.proofs.Source.{range, ends-full, ends-valid, kept-most, cut_at, cut-valid}

module _ (p : ℕ) (ks ps : List Float) (g : Bool) (ws : List Float) (lo hi : Float) (a b c d : ℕ) (kc pc wc : List Float)
    (e : trim_outcome p ks ps g ws lo hi a b c d ≡ gives kc pc wc) where
  abbrev n : ℕ
  n = count_of ps

  -- the exact insertions; the first place that is kept, and how many points are
  abbrev l : List Insert
  l = placed p n ks (ends_of p ks lo hi)

  abbrev f : ℕ
  f = below_of ks lo

  abbrev m : ℕ
  m = kept_of p ks lo hi

  abbrev after : ℕ
  after = n + length (ends_of p ks lo hi)

  -- the exact knots after the insertions
  abbrev W : ℕ → ℚ
  W = refined_all (val_at ks) l

  -- ---- no refusal: the start is open, the fold gives a curve, and kc is cut out of its knots
  pub record Formed : Type 0 where
    pub start : Open p ks ps g ws lo hi a b c d
    pub knots : List Float
    pub points : List Float
    pub weights : List Float
    pub fold : insert_all p g n ks ps (given_of g ws) (ends_of p ks lo hi) ≡ gives knots points weights
    pub part : take (m + p + 1) (drop f knots) ≡ kc

  formed : Formed
  unfolding trim_outcome cut_curve
  formed =
      let R = trim_start p ks ps g ws lo hi a b c d in
      by_number R.number (λ y. cond y (cut_of p g f m (insert_all p g n ks ps (given_of g ws) (ends_of p ks lo hi))) (refuses R) ≡ gives kc pc wc → Formed)
      (λ z h. go z (insert_all p g n ks ps (given_of g ws) (ends_of p ks lo hi)) refl h)
      (λ z h. let q : ◌≡◌ {A = ℕ} 0 1 = cc in absurd (omega arith)) e
    where
      go : (trim_start p ks ps g ws lo hi a b c d).number ≡ 0 → (o : Outcome) → insert_all p g n ks ps (given_of g ws) (ends_of p ks lo hi) ≡ o → cut_of p g f m o ≡ gives kc pc wc → Formed
      go z (refuses r) k h = let q : ◌≡◌ {A = ℕ} 0 1 = cc in absurd (omega arith)
      go z (gives ks' ps' ws') k h =
          let R = cut_refusal p g f m ks' ps' ws' in
          by_number R.number (λ y. cond y (gives (take (m + p + 1) (drop f ks')) (take (m * 3) (drop (f * 3) ps')) (take (given g m) (drop f ws'))) (refuses R) ≡ gives kc pc wc → Formed)
          (λ y j. record { start = start-open p ks ps g ws lo hi a b c d z; knots = ks'; points = ps'; weights = ws'; fold = k; part = cc })
          (λ y j. let q : ◌≡◌ {A = ℕ} 0 1 = cc in absurd (omega arith)) h

  abbrev ks' : List Float
  ks' = formed.knots

  R : Range (at ks p) (at ks n) lo hi
  R = range p ks ps g ws lo hi a b c d formed.start

  made_of : Placed p n ks (ends_of p ks lo hi) ks'
  made_of = placed-all p g n ks ps (given_of g ws) (ends_of p ks lo hi) ks' formed.points formed.weights formed.start.curve.knots formed.fold

  valid : ValidKnots p after ks'
  valid = ends-valid p ks ps g ws lo hi a b c d formed.start ks' formed.points formed.weights formed.fold

  kept : (p < m) × (f + m ≡ below_of ks' hi) × (f + m + p + 1 ≤ length ks')
  kept = kept-most p ks ps g ws lo hi a b c d formed.start ks' formed.points formed.weights formed.fold

  full : Cut p n ks lo hi ks'
  full = ends-full p ks ps g ws lo hi a b c d formed.start ks' formed.points formed.weights formed.fold

  at_cut : (j : ℕ) → j < m + p + 1 → at kc j ≡ at ks' (f + j)
  at_cut j h = ap (λ (xs : List Float). at xs j) (sym formed.part) ∙ cut_at p ks ps g ws lo hi a b c d formed.start ks' formed.points formed.weights formed.fold j h

  -- ---- the knots of the cut
  pub trimmed-valid : ValidKnots p m kc
  trimmed-valid = subst (ValidKnots p m) formed.part (cut-valid p ks ps g ws lo hi a b c d formed.start ks' formed.points formed.weights formed.fold)

  -- they are those of the exact insertions
  pub trimmed-knots : (i : ℕ) → i < m + suc p → val_at kc i ≡ cut f W i
  trimmed-knots i h = ap val (at_cut i (omega arith)) ∙ ap (λ (V' : ℕ → ℚ). V' (f + i)) made_of.knots

  -- the first degree + 1 are lo, and the last hi
  pub trimmed-low : (i : ℕ) → i ≤ p → val_at kc i ≡ val lo
  trimmed-low i h =
      let x = full.full-low in
      let y = full.below-low in
      ap val (at_cut i (omega arith)) ∙ equal-value p after ks' valid lo R.low (f + i) (omega arith) (omega arith)

  pub trimmed-high : (i : ℕ) → i ≤ p → val_at kc (m + i) ≡ val hi
  trimmed-high i h =
      let x = full.full-high in
      let y = kept.1 in
      ap val (at_cut (m + i) (omega arith)) ∙ equal-value p after ks' valid hi R.high (f + (m + i)) (omega arith) (omega arith)

  -- ---- what `trim_same` asks
  fits : Fits p n l
  fits = made_of.fits

  count : length l + n ≡ after
  count = omega (arith, placed-long p n ks (ends_of p ks lo hi))

  order : (i j : ℕ) → i ≤ j → j < after + suc p → W i ≤q W j
  order = subst (λ (V' : ℕ → ℚ). (i j : ℕ) → i ≤ j → j < after + suc p → V' i ≤q V' j) made_of.knots (in_order p after ks' valid)

  part : f + m ≤ after
  part = let x = kept.2 in let y = valid.long in omega arith

  cut-order : (i j : ℕ) → i ≤ j → j < m + suc p → cut f W i ≤q cut f W j
  cut-order i j h k = let x = part in order (f + i) (f + j) (omega arith) (omega arith)

  -- ---- coordinate k of the exact point at t, each curve on its own span of t
  module _ (k : ℕ) where
    abbrev c₀ : ℕ → ℚ
    c₀ = coordinate_value ps k

    -- the weights and the coordinate after the insertions
    abbrev w₁ : ℕ → ℚ
    w₁ = inserted_all (val_at ks) p l (weight_value g ws)

    abbrev c₁ : ℕ → ℚ
    c₁ = inserted_point_all (val_at ks) p l (weight_value g ws) c₀

    module _ {s s₀ : ℕ} (S : SpanOf (val_at kc) p m s) (S₀ : SpanOf (val_at ks) p n s₀) where
      pub trimmed-same : {t : ℚ} → InSpan (val_at ks) s₀ t → InSpan (val_at kc) s t → exact (val_at kc) t s p m (cut f w₁) (cut f c₁) ≡ exact (val_at ks) t s₀ p n (weight_value g ws) c₀
      trimmed-same {t} I J =
          let J' = in-same p m trimmed-knots S.last t J in
          exact_same p m trimmed-knots S.last t S.first (cut f w₁) (cut f c₁)
          ∙ trim_same l (val_at ks) n count fits order f part (span-in cut-order S.first S.last J') S₀ (weight_value g ws) c₀ (weight-above n ps g ws formed.start.curve.controls) I J'

      -- at hi both are on the span that ends there: the limit from inside
      pub trimmed-same-end : {t : ℚ} → InEnd (val_at ks) s₀ t → InEnd (val_at kc) s t → exact (val_at kc) t s p m (cut f w₁) (cut f c₁) ≡ exact (val_at ks) t s₀ p n (weight_value g ws) c₀
      trimmed-same-end {t} I J =
          let J' = end_same p m trimmed-knots S.last t J in
          exact_same p m trimmed-knots S.last t S.first (cut f w₁) (cut f c₁)
          ∙ trim-same-end l (val_at ks) n count fits order f part (span-end cut-order S.first S.last J') S₀ (weight_value g ws) c₀ (weight-above n ps g ws formed.start.curve.controls) I J'

  -- ---- each parameter of the range has its span in both
  low-in : val_at ks p ≤q val lo
  low-in = let v = formed.start.curve.knots in let L = v.long in val-le lo (at ks p) (T_of _ R.low) (T_of _ (v.finites p (omega arith))) (Tn-of _ R.from)

  high-in : val hi ≤q val_at ks n
  high-in = let v = formed.start.curve.knots in let L = v.long in val-le (at ks n) hi (T_of _ (v.finites n (omega arith))) (T_of _ R.high) (Tn-of _ R.to)

  last-knot : val_at kc m ≡ val hi
  last-knot = ap (val_at kc) (sym (add-zero m)) ∙ trimmed-high 0 (omega arith)

  module _ (t : ℚ) where
    pub trimmed-span : val lo ≤q t → t <q val hi → ((s : ℕ) × SpanOf (val_at kc) p m s × InSpan (val_at kc) s t) × ((s₀ : ℕ) × SpanOf (val_at ks) p n s₀ × InSpan (val_at ks) s₀ t)
    trimmed-span x y = (
      table-span p m kc trimmed-valid t (subst (λ (q : ℚ). q ≤q t) (sym (trimmed-low p (omega arith))) x) (subst (λ (q : ℚ). t <q q) (sym last-knot) y),
      table-span p n ks formed.start.curve.knots t (≤_trans low-in x) (<-≤-trans y high-in),
    )

    pub trimmed-end : val lo <q t → t ≤q val hi → ((s : ℕ) × SpanOf (val_at kc) p m s × InEnd (val_at kc) s t) × ((s₀ : ℕ) × SpanOf (val_at ks) p n s₀ × InEnd (val_at ks) s₀ t)
    trimmed-end x y = (
      table-end p m kc trimmed-valid t (subst (λ (q : ℚ). q <q t) (sym (trimmed-low p (omega arith))) x) (subst (λ (q : ℚ). t ≤q q) (sym last-knot) y),
      table-end p n ks formed.start.curve.knots t (≤-<-trans low-in x) (≤_trans y high-in),
    )
