-- A list of knots that is inserted over doubles is a list of exact insertions: each fits, lies between its neighbours, and the knots that come out are not rounded.
-- So the exact curve after it is the exact curve there was.
-- Assumes nothing.
use Prim.Native.Nat.{ℕ, suc, ◌+◌, ◌-◌, ◌≤◌, ◌<◌}
use mathlib.Core.Bool.{Bool, true, false, cond}
use mathlib.Core.Path.{◌≡◌, refl, sym, ◌∙◌, ap, subst, fun_ext}
use mathlib.Core.Logic.{⊎_elim}
use mathlib.Core.List.{List, [], ◌∷◌}
use native.Mathlib.Omega.{arith}
use native.Mathlib.Numerals.{add-one}
use lib.ListN.{length, get_or-eq_default}
use lib.Ieee.{Float, nan, lt}
use lib.Ieee.Scale.{finite}
use Rattle.exact.specs.Rational.{ℚ, q0, ◌≤q◌, ◌<q◌}
use Rattle.exact.specs.Spline.{exact}
use Rattle.exact.specs.Boehm.{SpanOf, InSpan, InEnd, Insert, Fits, Between, refined, refined_all, inserted_all, inserted_point_all}
use Rattle.exact.proofs.Field.{lt→le}
use Rattle.exact.proofs.Refined.{refined-is}
use Rattle.exact.proofs.SeveralKnots.{insertions-same, insertions-same-end}
use Rattle.doubles.specs.Run.{at, val_at}
use Rattle.doubles.specs.Value.{val, zero+, one+}
use Rattle.doubles.proofs.TestFacts.{T_of, Tn-of}
use Rattle.doubles.proofs.TestedOrder.{le-gives}
use Rattle.doubles.proofs.Value.{val-lt, val-le, val-zero}
use Rattle.knots.specs.Knots.{ValidKnots}
use Rattle.knots.specs.Curve.{count_of, is_weight, ValidControls, ValidCurve}
use Rattle.knots.specs.Span.{span_of}
use Rattle.knots.proofs.Below.{and_left, and_right}
use Rattle.knots.proofs.Fractions.{table-span, table-end}
use Rattle.runs.proofs.Tabulated.{at-tabulate, length-tabulate}
use Rattle.runs.proofs.Cases.{lt-or-ge}
use Rattle.insertion.specs.Insert.{knot_at, more_knots, inserted_knots, inserted_points, inserted_weights, insert_refusal}
use Rattle.insertion.specs.Fold.{insert_all}
use Rattle.edits.specs.Outcome.{gives, refuses}
use Rattle.edits.specs.Whole.{given_of}
use Rattle.insertion.specs.Whole.{insert_outcome, insert_start}
use Rattle.insertion.specs.Placed.{placed}
use Rattle.runs.specs.Fraction.{weight_value, coordinate_value}
use Rattle.runs.specs.Weight.{weight_at}
use Rattle.insertion.proofs.Domain.{Spot, spot}
use Rattle.insertion.proofs.Folds.{inserted-valid}
use Rattle.insertion.proofs.ListResult.{by_number, others, Made, made, made-low, made-high}
use Rattle.insertion.proofs.StartOpen.{start-open}
use Rattle.insertion.proofs.Textbook.{knot-refined}

-- ---- one knot
-- the knots with t more, as fractions
pub more-values : (k : ℕ) (t : Float) (ks : List Float) → k < length ks → val_at (more_knots k t ks) ≡ refined (val_at ks) (val t) k
unfolding more_knots
more-values k t ks l = fun_ext (λ j. ⊎_elim
    (λ (b : j < length ks + 1). ap val (at-tabulate (length ks + 1) (knot_at k t ks) j b) ∙ knot-refined k t ks j)
    (λ (b : length ks + 1 ≤ j).
    let L = length-tabulate (length ks + 1) (knot_at k t ks) in
    let e : suc (j - 1) ≡ j = omega arith in
    ap val (get_or-eq_default (more_knots k t ks) nan {n = j} (omega arith))
    ∙ sym (ap (refined (val_at ks) (val t) k) (sym e) ∙ (refined-is (val_at ks) (val t) k).after (j - 1) (omega arith) ∙ ap val (get_or-eq_default ks nan {n = j - 1} (omega arith))))
    (lt-or-ge j (length ks + 1)))

module _ (p n : ℕ) (ks ps : List Float) (g : Bool) (ws : List Float) (t : Float) (v : ValidKnots p n ks) (z : (insert_refusal p n ks ps g ws t).number ≡ 0) where
  S : Spot p n ks t
  S = spot p n ks ps g ws t v z

  spot-low : val_at ks (span_of p n ks t) ≤q val t
  spot-low =
      let k = span_of p n ks t in
      let b = S.span.below in
      let L = v.long in
      let K = v.finites k (omega arith) in
      val-le t (at ks k) (T_of _ S.number) (T_of _ K) (Tn-of _ (le-gives (at ks k) t K S.number (S.span.inside S.high).0))

  spot-high : val t ≤q val_at ks (suc (span_of p n ks t))
  spot-high =
      let k = span_of p n ks t in
      let b = S.span.below in
      let L = v.long in
      let h = subst (λ (i : ℕ). lt t (at ks i) ≡ true) (add-one k) (S.span.inside S.high).1 in
      lt→le (val-lt t (at ks (suc k)) (T_of _ S.number) (T_of _ (v.finites (suc k) (omega arith))) (T_of _ h))

  pub spot-values : val_at (more_knots (span_of p n ks t) t ks) ≡ refined (val_at ks) (val t) (span_of p n ks t)
  spot-values = let b = S.span.below in let L = v.long in more-values (span_of p n ks t) t ks (omega arith)

-- ---- a list
pub placed-long : (p n : ℕ) (ks ts : List Float) → length (placed p n ks ts) ≡ length ts
unfolding placed
placed-long p n ks [] = refl
placed-long p n ks (t ∷ ts) = ap suc (placed-long p (n + 1) (more_knots (span_of p n ks t) t ks) ts)

-- what the exact theorems ask of the insertions, and that the knots ks' that come out are theirs
pub record Placed (p n : ℕ) (ks ts ks' : List Float) : Type 0 where
  pub fits : Fits p n (placed p n ks ts)
  pub between : Between (val_at ks) (placed p n ks ts)
  pub knots : val_at ks' ≡ refined_all (val_at ks) (placed p n ks ts)

placed-more : (p n : ℕ) (ks ps : List Float) (g : Bool) (ws : List Float) (t : Float) → ValidKnots p n ks → (insert_refusal p n ks ps g ws t).number ≡ 0
    → (ts ks' : List Float) → Placed p (n + 1) (more_knots (span_of p n ks t) t ks) ts ks' → Placed p n ks (t ∷ ts) ks'
unfolding placed refined_all
placed-more p n ks ps g ws t v z ts ks' M =
    let k = span_of p n ks t in
    let l = placed p (n + 1) (more_knots k t ks) ts in
    let s = (S p n ks ps g ws t v z).span in
    let e = spot-values p n ks ps g ws t v z in
    record {
      fits = (s.from, s.below, subst (λ (m : ℕ). Fits p m l) (add-one n) M.fits);
      between = (spot-low p n ks ps g ws t v z, spot-high p n ks ps g ws t v z, subst (λ (W : ℕ → ℚ). Between W l) e M.between);
      knots = M.knots ∙ ap (λ (W : ℕ → ℚ). refined_all W l) e;
    }

pub placed-all : (p : ℕ) (g : Bool) (n : ℕ) (ks ps ws ts ks' ps' ws' : List Float) → ValidKnots p n ks → insert_all p g n ks ps ws ts ≡ gives ks' ps' ws' → Placed p n ks ts ks'
unfolding insert_all placed refined_all inserted_knots
placed-all p g n ks ps ws [] ks' ps' ws' v e = let a : ks ≡ ks' = cc in record { fits = tt; between = tt; knots = ap val_at (sym a) }
placed-all p g n ks ps ws (t ∷ ts) ks' ps' ws' v e =
    let R = insert_refusal p n ks ps g ws t in
    by_number R.number (λ b. cond b (others p g n ks ps ws t ts) (refuses R) ≡ gives ks' ps' ws' → Placed p n ks (t ∷ ts) ks')
    (λ z h.
    placed-more p n ks ps g ws t v z ts ks'
    (placed-all p g (n + 1) (inserted_knots p n ks ps g ws t) (inserted_points p n ks ps g ws t) (inserted_weights p n ks ps g ws t) ts ks' ps' ws' (inserted-valid p n ks ps g ws t z) h))
    (λ z h. let q : ◌≡◌ {A = ℕ} 0 1 = cc in absurd (omega arith)) e

-- ---- the exact point at t, each curve on its own span of t, for any positive weights w and any coordinate P
module _ (p : ℕ) (g : Bool) (n : ℕ) (ks ps ws ts ks' ps' ws' : List Float) (v : ValidKnots p n ks) (e : insert_all p g n ks ps ws ts ≡ gives ks' ps' ws') where
  abbrev l : List Insert
  l = placed p n ks ts

  after-long : length l + n ≡ n + length ts
  after-long = omega (arith, placed-long p n ks ts)

  made_of : Placed p n ks ts ks'
  made_of = placed-all p g n ks ps ws ts ks' ps' ws' v e

  module _ (w P : ℕ → ℚ) (pos : (i : ℕ) → i < n → q0 <q w i) {s s₀ : ℕ} (S : SpanOf (val_at ks') p (n + length ts) s) (S₀ : SpanOf (val_at ks) p n s₀) where
    moved-span : SpanOf (refined_all (val_at ks) l) p (n + length ts) s
    moved-span = subst (λ (W : ℕ → ℚ). SpanOf W p (n + length ts) s) made_of.knots S

    pub fold_same : {t : ℚ} → InSpan (val_at ks) s₀ t → InSpan (val_at ks') s t
        → exact (val_at ks') t s p (n + length ts) (inserted_all (val_at ks) p l w) (inserted_point_all (val_at ks) p l w P) ≡ exact (val_at ks) t s₀ p n w P
    fold_same {t} I J =
        ap (λ (W : ℕ → ℚ). exact W t s p (n + length ts) (inserted_all (val_at ks) p l w) (inserted_point_all (val_at ks) p l w P)) made_of.knots
        ∙ insertions-same l (val_at ks) n after-long made_of.fits moved-span S₀ w P pos I (subst (λ (W : ℕ → ℚ). InSpan W s t) made_of.knots J)

    pub fold-same-end : {t : ℚ} → InEnd (val_at ks) s₀ t → InEnd (val_at ks') s t
        → exact (val_at ks') t s p (n + length ts) (inserted_all (val_at ks) p l w) (inserted_point_all (val_at ks) p l w P) ≡ exact (val_at ks) t s₀ p n w P
    fold-same-end {t} I J =
        ap (λ (W : ℕ → ℚ). exact W t s p (n + length ts) (inserted_all (val_at ks) p l w) (inserted_point_all (val_at ks) p l w P)) made_of.knots
        ∙ insertions-same-end l (val_at ks) n after-long made_of.fits moved-span S₀ w P pos I (subst (λ (W : ℕ → ℚ). InEnd W s t) made_of.knots J)

-- ---- a table's weights are above 0
pub weight-above : (n : ℕ) (ps : List Float) (g : Bool) (ws : List Float) → ValidControls n ps g ws → (i : ℕ) → i < n → q0 <q weight_value g ws i
unfolding weight_at is_weight lt
weight-above n ps true ws C i l =
    let L = C.weights refl in
    let h = C.positive refl i (omega arith) in
    subst (λ (y : ℚ). y <q val (at ws i)) val-zero (val-lt zero+ (at ws i) tt (T_of _ (and_left (finite (at ws i)) _ h)) (T_of _ (and_right (finite (at ws i)) _ h)))
weight-above n ps false ws C i l = subst (λ (y : ℚ). y <q val one+) val-zero (val-lt zero+ one+ tt tt tt)

-- ---- `insert_knots`, where it forms a curve
module _ (p : ℕ) (ks ps : List Float) (g : Bool) (ws ts : List Float) (a b c d : ℕ) (ks' ps' ws' : List Float) (e : insert_outcome p ks ps g ws ts a b c d ≡ gives ks' ps' ws') where
  pub record Formed : Type 0 where
    pub curve : ValidCurve p ks ps g ws
    pub fold : insert_all p g (count_of ps) ks ps (given_of g ws) ts ≡ gives ks' ps' ws'

  pub insert-formed : Formed
  unfolding insert_outcome
  insert-formed =
      let R = insert_start p ks ps g ws ts a b c d in
      by_number R.number (λ y. cond y (insert_all p g (count_of ps) ks ps (given_of g ws) ts) (refuses R) ≡ gives ks' ps' ws' → Formed)
      (λ z h. record { curve = (start-open p ks ps g ws ts a b c d z).curve; fold = h })
      (λ z h. let q : ◌≡◌ {A = ℕ} 0 1 = cc in absurd (omega arith)) e

  pub list-placed : Placed p (count_of ps) ks ts ks'
  list-placed = placed-all p g (count_of ps) ks ps (given_of g ws) ts ks' ps' ws' insert-formed.curve.knots insert-formed.fold

  list-made : Made p g (count_of ps) ks ps (given_of g ws) ts ks' ps' ws'
  list-made = made p g (count_of ps) ks ps (given_of g ws) ts ks' ps' ws' insert-formed.curve.knots insert-formed.fold

  pub list-valid : ValidKnots p (count_of ps + length ts) ks'
  list-valid = list-made.valid

  low-kept : at ks' p ≡ at ks p
  low-kept = made-low p g (count_of ps) ks ps (given_of g ws) ts ks' ps' ws' insert-formed.curve.knots list-made

  high-kept : at ks' (count_of ps + length ts) ≡ at ks (count_of ps)
  high-kept = made-high p g (count_of ps) ks ps (given_of g ws) ts ks' ps' ws' insert-formed.curve.knots list-made

  -- coordinate k of the exact point at t, with the insertions that the list stands for
  module _ (k : ℕ) where
    abbrev c₀ : ℕ → ℚ
    c₀ = coordinate_value ps k

    abbrev c₁ : ℕ → ℚ
    c₁ = inserted_point_all (val_at ks) p (placed p (count_of ps) ks ts) (weight_value g ws) (coordinate_value ps k)

    abbrev w₁ : ℕ → ℚ
    w₁ = inserted_all (val_at ks) p (placed p (count_of ps) ks ts) (weight_value g ws)

    module _ {s s₀ : ℕ} (S : SpanOf (val_at ks') p (count_of ps + length ts) s) (S₀ : SpanOf (val_at ks) p (count_of ps) s₀) where
      pub list_same : {t : ℚ} → InSpan (val_at ks) s₀ t → InSpan (val_at ks') s t → exact (val_at ks') t s p (count_of ps + length ts) w₁ c₁ ≡ exact (val_at ks) t s₀ p (count_of ps) (weight_value g ws) c₀
      list_same = fold_same p g (count_of ps) ks ps (given_of g ws) ts ks' ps' ws' insert-formed.curve.knots insert-formed.fold (weight_value g ws) c₀
          (weight-above (count_of ps) ps g ws insert-formed.curve.controls) S S₀

      -- at the right end both are on the span that ends there: the limit from inside
      pub list-same-end : {t : ℚ} → InEnd (val_at ks) s₀ t → InEnd (val_at ks') s t → exact (val_at ks') t s p (count_of ps + length ts) w₁ c₁ ≡ exact (val_at ks) t s₀ p (count_of ps) (weight_value g ws) c₀
      list-same-end = fold-same-end p g (count_of ps) ks ps (given_of g ws) ts ks' ps' ws' insert-formed.curve.knots insert-formed.fold (weight_value g ws) c₀
          (weight-above (count_of ps) ps g ws insert-formed.curve.controls) S S₀

  -- each parameter of the domain has its span in both: the domain is what it was
  module _ (t : ℚ) where
    pub list-span : val_at ks p ≤q t → t <q val_at ks (count_of ps)
        → ((s : ℕ) × SpanOf (val_at ks') p (count_of ps + length ts) s × InSpan (val_at ks') s t) × ((s₀ : ℕ) × SpanOf (val_at ks) p (count_of ps) s₀ × InSpan (val_at ks) s₀ t)
    list-span x y = (
      table-span p (count_of ps + length ts) ks' list-valid t (subst (λ (q : Float). val q ≤q t) (sym low-kept) x) (subst (λ (q : Float). t <q val q) (sym high-kept) y),
      table-span p (count_of ps) ks insert-formed.curve.knots t x y,
    )

    pub list-end : val_at ks p <q t → t ≤q val_at ks (count_of ps)
        → ((s : ℕ) × SpanOf (val_at ks') p (count_of ps + length ts) s × InEnd (val_at ks') s t) × ((s₀ : ℕ) × SpanOf (val_at ks) p (count_of ps) s₀ × InEnd (val_at ks) s₀ t)
    list-end x y = (
      table-end p (count_of ps + length ts) ks' list-valid t (subst (λ (q : Float). val q <q t) (sym low-kept) x) (subst (λ (q : Float). t ≤q val q) (sym high-kept) y),
      table-end p (count_of ps) ks insert-formed.curve.knots t x y,
    )
