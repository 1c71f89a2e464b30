-- The rows of `eval_many` and `eval2_many`: on a valid curve the step answers what the evaluation answers, and each turn of the loop stores one more.
-- Assumes nothing.
use Rattle.std.specs.Prelude.{Ok, Err}
use Prim.Native.Nat.{ℕ, ◌+◌, ◌*◌, ◌≤◌, ◌<◌}
use mathlib.Core.Bool.{Bool, true, false, cond}
use mathlib.Core.Path.{◌≡◌, refl, sym, ◌∙◌, ap, ap₂, subst}
use mathlib.Core.List.{List, [], ◌∷◌, ◌++◌}
use native.Mathlib.Omega.{arith}
use native.Mathlib.Nat.{le_trans, suc-mul, mul-le-mul_right}
use native.Mathlib.Numerals.{add-one}
use lib.Dec.{eqb}
use lib.ListN.{length, take, replicate, length-replicate}
use lib.Seq.{sets, take-suc}
use lib.Ieee.{Float, nan}
use Rattle.doubles.specs.Run.{at}
use Rattle.doubles.specs.Value.{zero+}
use Rattle.knots.specs.Span.{outside, refusing, clamping, span_of}
use Rattle.knots.specs.Span.{searched}
use Rattle.knots.specs.Clear.{zeros}
use Rattle.knots.specs.Refusal.{refuse}
use Rattle.knots.specs.declared.refusal.Reason.TheVariants.{LengthBad}
use Rattle.knots.specs.Curve.{over_long, count_of, ValidCurve}
use Rattle.knots.specs.declared.refusal.Refusal.{Refusal}
use Rattle.knots.proofs.Refusals.{passed, or_else-none, where-none}
use Rattle.knots.proofs.Curves.{within, curve-not-refused}
use Rattle.evaluate.specs.Curve.{curve_of, found_of, looked, parameter_refusal, step_refusal, eval_refusal, eval_at_of, eval_of}
use Rattle.evaluate.specs.Curve2.{curve2_of, told2, found2_of, eval2_at_of, eval2_of}
use Rattle.runs.specs.Point.{three_of, stored_three}
use Rattle.runs.specs.declared.vector.Vector.{Vector}
use Rattle.runs.proofs.Stores.{sets_more, sets-three}
use Rattle.knots.proofs.Shapes.{shape-none}
use Rattle.evaluate.proofs.Steps.{parameter-open}
use Rattle.evaluate.proofs.Curves.{eval-inside-same, eval2-inside-same, eval-outside, eval2-outside}
use Rattle.knots.proofs.Searches.{searched-is}
use Rattle.many.specs.Start.{table_refusal}
use Rattle.many.specs.Points.{width, number_at, numbers_at, numbers_of, points_start}
use Rattle.many.specs.declared.row.PointRow.{PointRow}
use Rattle.many.proofs.Rows.{InRows, in_start, in-more, table-open, rooms-open}

-- ---- a row
abbrev pub bare : ℕ → Vector → Vector → Vector → PointRow
bare n a b c = record { number = n; point = a; d1 = b; d2 = c }

pub width_small : (b : Bool) → width b ≤ 18
width_small true = omega arith
width_small false = omega arith

-- what the stores of a row leave
module _ (b : Bool) (r : PointRow) (l : List Float) (i w : ℕ) (l₁ l₂ : List Float) (e : w ≡ width b) (e₁ : l₁ ≡ stored_three l (i * w) r.point) (e₂ : l₂ ≡ stored_three l₁ (i * w + 3) r.d1) where
  two-are : l₂ ≡ stored_three (stored_three l (i * w) r.point) (i * w + 3) r.d1
  two-are = e₂ ∙ ap (λ (m : List Float). stored_three m (i * w + 3) r.d1) e₁

  -- c behind two vectors is what the flag asks for
  is_row : (c : List Float) → cond b (three_of r.d2) [] ≡ c → sets l (i * w) (three_of r.point ++ (three_of r.d1 ++ c)) ≡ sets l (i * width b) (numbers_of b r)
  is_row c h = ap₂ (λ (k : ℕ) (x : List Float). sets l (i * k) (three_of r.point ++ (three_of r.d1 ++ x))) e (sym h)

  pub row-short : b ≡ false → l₂ ≡ sets l (i * width b) (numbers_of b r)
  row-short f = two-are ∙ (sets_more (three_of r.point) (three_of r.d1) l (i * w) (i * w + 3) refl ∙ is_row [] (ap (λ (x : Bool). cond x (three_of r.d2) []) f))

  pub row-long : b ≡ true → (l₃ : List Float) → l₃ ≡ stored_three l₂ (i * w + 6) r.d2 → l₃ ≡ sets l (i * width b) (numbers_of b r)
  row-long f l₃ e₃ =
      (e₃ ∙ ap (λ (m : List Float). stored_three m (i * w + 6) r.d2) two-are)
      ∙ (sets-three (three_of r.point) (three_of r.d1) (three_of r.d2) l (i * w) (i * w + 3) (i * w + 6) refl (omega arith)
      ∙ is_row (three_of r.d2) (ap (λ (x : Bool). cond x (three_of r.d2) []) f))

module _ (c : Bool) (p : ℕ) (ks ps : List Float) (g : Bool) (ws : List Float) where
  -- ---- one answer
  module _ (v : ValidCurve p ks ps g ws) (t : Float) where
    step_is : step_refusal c p ks ps g ws t ≡ parameter_refusal c p (count_of ps) ks t
    unfolding step_refusal
    step_is = simp (shape-none p ks ps g ws v)

    eval-is : eval_refusal c p ks ps g ws t ≡ parameter_refusal c p (count_of ps) ks t
    unfolding eval_refusal
    eval-is = simp (curve-not-refused p ks ps g ws v)

    -- a parameter that is not refused is looked up in the same span, and of another no point is asked
    same_span : (parameter_refusal c p (count_of ps) ks t).number ≡ 0 → searched p (count_of ps) ks (looked p ks ps t) ≡ span_of p (count_of ps) ks (looked p ks ps t)
    same_span h = searched-is p (count_of ps) ks t v.knots (parameter-open c p (count_of ps) ks t h).1

    asked : {A : Type 0} (f : ℕ → A) (z : A) → cond (eqb (parameter_refusal c p (count_of ps) ks t).number 0) (f (searched p (count_of ps) ks (looked p ks ps t))) z
        ≡ cond (eqb (parameter_refusal c p (count_of ps) ks t).number 0) (f (span_of p (count_of ps) ks (looked p ks ps t))) z
    asked = where-none (parameter_refusal c p (count_of ps) ks t).number _ _ same_span

    pub valid-answered : eval_at_of c p ks ps g ws t ≡ eval_of c p ks ps g ws t
    unfolding eval_at_of found_of eval_of
    valid-answered = simp (step_is, eval-is) (asked (λ s. Ok (curve_of p ks ps g ws s (looked p ks ps t))) (Err (parameter_refusal c p (count_of ps) ks t)))

    pub valid-answered2 : eval2_at_of c p ks ps g ws t ≡ eval2_of c p ks ps g ws t
    unfolding eval2_at_of found2_of eval2_of
    valid-answered2 = simp (step_is, eval-is) (asked (λ s. told2 (curve2_of p ks ps g ws s (looked p ks ps t))) (Err (parameter_refusal c p (count_of ps) ks t)))

-- ---- where a parameter is not outside the domain, its row is the same in both modes
pub row-inside-same : (p : ℕ) (ks ps : List Float) (g : Bool) (ws : List Float) (b : Bool) (t : Float) → outside p (count_of ps) ks t ≡ false
    → (number_at refusing p ks ps g ws b t ≡ number_at clamping p ks ps g ws b t) × (numbers_at refusing p ks ps g ws b t ≡ numbers_at clamping p ks ps g ws b t)
row-inside-same p ks ps g ws b t i = simp (eval-inside-same p ks ps g ws t i, eval2-inside-same p ks ps g ws t i) (refl, refl)

-- where it is, and the clamped call is refused by nothing before 21, the row of the call that refuses has 43 and +0.0
pub row-outside : (p : ℕ) (ks ps : List Float) (g : Bool) (ws : List Float) (b : Bool) (t : Float) → (eval_refusal clamping p ks ps g ws t).number ≡ 0 → outside p (count_of ps) ks t ≡ true
    → (number_at refusing p ks ps g ws b t ≡ 43 ∷ []) × (numbers_at refusing p ks ps g ws b t ≡ zeros (width b))
row-outside p ks ps g ws true t h o = simp (eval2-outside p ks ps g ws t h o) (refl, refl)
row-outside p ks ps g ws false t h o = simp (eval-outside p ks ps g ws t h o) (refl, refl)

-- ---- the loop, whatever a row holds
module _ (f : Float → List ℕ) (h : Float → List Float) (w : ℕ) where
  -- i parameters are done
  pub record InEach (ts : List Float) (n₀ : List ℕ) (r₀ : List Float) (n₁ : List ℕ) (r₁ : List Float) (i : ℕ) : Type 0 where
    pub upto : i ≤ length ts
    pub numbers : InRows f 1 n₀ (take i ts) i n₁
    pub rows : InRows h w r₀ (take i ts) (i * w) r₁

module _ (f : Float → List ℕ) (fits : (t : Float) → length (f t) ≡ 1) (h : Float → List Float) (w : ℕ) (fits' : (t : Float) → length (h t) ≡ w) (ts : List Float) (n₀ : List ℕ) (r₀ : List Float) where
  pub each_start : InEach f h w ts n₀ r₀ n₀ r₀ 0
  each_start = record {
    upto = omega arith;
    numbers = in_start f 1 fits n₀;
    rows = let e : 0 ≡ 0 * w = omega arith in subst (λ (k : ℕ). InRows h w r₀ [] k r₀) e (in_start h w fits' r₀);
  }

  module _ (ln : length ts ≤ length n₀) (lr : length ts * w ≤ length r₀) (n₁ : List ℕ) (r₁ : List Float) (i : ℕ) (I : InEach f h w ts n₀ r₀ n₁ r₁ i) (l : i < length ts) where
    -- a row more has room
    behind : i * w + w ≤ length ts * w
    behind = subst (λ (k : ℕ). k ≤ length ts * w) (suc-mul i w) (mul-le-mul_right w l)

    pub each_more : (n₂ : List ℕ) (r₂ : List Float) (x : List ℕ) (y : List Float) → x ≡ f (at ts i) → y ≡ h (at ts i) → n₂ ≡ sets n₁ i x → r₂ ≡ sets r₁ (i * w) y → InEach f h w ts n₀ r₀ n₂ r₂ (i + 1)
    each_more n₂ r₂ x y ex ey en er =
        record {
          upto = omega arith;
          numbers = subst (InRows f 1 n₀ (take (i + 1) ts) (i + 1)) (sym en) (in-more f 1 fits n₀ (take i ts) (take (i + 1) ts) (at ts i) i (i + 1) n₁ x I.numbers ex (omega arith) refl grown);
          rows =
              subst
              (InRows h w r₀ (take (i + 1) ts) ((i + 1) * w)) (sym er)
              (in-more h w fits' r₀ (take i ts) (take (i + 1) ts) (at ts i) (i * w) ((i + 1) * w) r₁ y I.rows ey (le_trans behind lr) next grown);
        }
      where
        next : (i + 1) * w ≡ i * w + w
        next = ap (λ (k : ℕ). k * w) (add-one i) ∙ suc-mul i w

        grown : take (i + 1) ts ≡ take i ts ++ at ts i ∷ []
        grown = ap (λ (k : ℕ). take k ts) (add-one i) ∙ take-suc ts i nan l

-- ---- before the loop
module _ (p : ℕ) (ks ps : List Float) (g : Bool) (ws ts : List Float) (w : ℕ) where
  pub record PointsOpen (a b : ℕ) : Type 0 where
    pub few : length ts ≤ 1048576
    pub curve : ValidCurve p ks ps g ws
    pub numbers : length ts ≤ a
    pub rows : length ts * w ≤ b

  pub points-open : (a b : ℕ) → (points_start p ks ps g ws ts w a b).number ≡ 0 → PointsOpen a b
  unfolding points_start
  points-open a b h =
      let x = passed (over_long true ts) (refuse LengthBad) _ (λ e. omega arith) h in
      let y = or_else-none (table_refusal p ks ps g ws) _ x.1 in
      let z = rooms-open a (length ts) b (length ts * w) y.1 in
      record {
        few = within true ts x.0 refl;
        curve = table-open p ks ps g ws y.0;
        numbers = z.0;
        rows = z.1;
      }

  -- lent runs by their own lengths
  pub start_is : (a b : ℕ) (n₀ : List ℕ) (r₀ : List Float) → n₀ ≡ replicate a 0 → r₀ ≡ zeros b → points_start p ks ps g ws ts w (length n₀) (length r₀) ≡ points_start p ks ps g ws ts w a b
  start_is a b n₀ r₀ cn cr = ap₂ (points_start p ks ps g ws ts w) (ap length cn ∙ length-replicate a 0) (ap length cr ∙ length-replicate b zero+)
