-- One insertion, put together from its passes: 19, 20, and the curve that is formed.
-- Assumes nothing.
use Rattle.std.specs.Prelude.{Result, Ok, Err}
use Prim.Native.Nat.{ℕ, ◌+◌, ◌*◌, ◌/◌, ◌%◌, ◌≤◌, ◌<◌}
use mathlib.Core.Bool.{Bool, true, false, not, cond}
use mathlib.Core.Path.{◌≡◌, refl, sym, ◌∙◌, ap, ap₂, subst}
use mathlib.Core.Logic.{inl, inr}
use mathlib.Core.List.{List, ◌++◌}
use native.Mathlib.Omega.{arith}
use borrow.Author.Tests.{eq-eqb, not-false, not-true, ltb-false}
use lib.ListN.{length, drop, length-take, length-drop}
use lib.Seq.{ext_get_or}
use lib.Dec.{ltb}
use lib.Ieee.{Float, nan, lt, le}
use lib.Ieee.Scale.{finite}
use Rattle.doubles.specs.Run.{at}
use Rattle.doubles.specs.Value.{one+}
use Rattle.doubles.proofs.TestedOrder.{le-fails, lt-asym}
use Rattle.knots.specs.Below.{all_below, off_at}
use Rattle.knots.specs.Refusal.{refuse, accepted, placed, checked}
use Rattle.knots.specs.declared.refusal.Reason.TheVariants.{KnotOutside, KnotFull, ControlBad, EditBad, PointNotFinite}
use Rattle.knots.specs.Knots.{ValidKnots}
use Rattle.knots.specs.Curve.{formed_refusal}
use Rattle.knots.specs.Span.{SpanAt, span_of}
use Rattle.knots.specs.Span.{SpanFound}
use Rattle.knots.specs.declared.refusal.Refusal.{Refusal}
use Rattle.knots.proofs.Below.{and_left, and_right}
use Rattle.knots.proofs.Refusals.{passed, refused-first}
use Rattle.runs.specs.Tabulate.{tabulate}
use Rattle.runs.proofs.Tabulated.{tabulate-cong}
use Rattle.runs.specs.Point.{point_of, finite_vector}
use Rattle.runs.specs.declared.vector.Vector.{Vector}
use Rattle.knots.proofs.Searches.{Within, span-found}
use Rattle.edits.specs.Control.{vector_of, is_lifted, is_blended, lower_of}
use Rattle.edits.specs.Counts.{multiplicity_of}
use Rattle.edits.specs.Rows.{axis, lower_at, weight_in, given}
use Rattle.insertion.specs.Insert.{blend_at, knot_at, more_knots, inside, spot_refusal, lifted, blended, more_points, more_weights, form_refusal, inserted_knots, inserted_points}
use Rattle.insertion.specs.Insert.{inserted_weights, insert_refusal}
use Rattle.edits.specs.Work.{knots_from, points_from, weights_from}
use Rattle.edits.specs.Passes.{row_of, kept_row, stored, Untouched, Outside, LiftDone}
use Rattle.insertion.specs.Passes.{lower_refusal, LowerDone, Formed, Inserted}
use Rattle.edits.specs.declared.control.Control.{Control}
use Rattle.insertion.proofs.Grown.{grown-valid, controls-left}
use Rattle.edits.proofs.RowReads.{row-axis, row-point, knot-from}
use Rattle.edits.proofs.RowStores.{rows_same}
use Rattle.insertion.proofs.FinitePoints.{lower-is, points-finite, points-place}
use Rattle.insertion.proofs.InsertionParts.{blend-cong, lower-cong, first_of, joined, points-left, put_low, put-high, put-knots}

-- ---- 19, 20, and the curve that is formed
fewer : (g : Bool) (m n j : ℕ) → n ≤ m → Untouched g m j → Untouched g n j
fewer g m n j l (inl u) = inl (omega arith)
fewer g m n j l (inr u) = inr u

pub untouched-less : (g : Bool) (n j : ℕ) → Untouched g (n + 1) j → Untouched g n j
untouched-less g n j u = fewer g (n + 1) n j (omega arith) u

pub outside-less : (a p n j : ℕ) → Outside a p (n + 1) j → Outside a p n j
outside-less a p n j (inl u) = inl u
outside-less a p n j (inr u) = inr (omega arith)

module _ (a p n k s : ℕ) (t : Float) (g : Bool) (w₀ : List Float) where
  abbrev KS : List Float
  KS = knots_from a p n w₀

  abbrev PS : List Float
  PS = points_from n w₀

  abbrev WS : List Float
  WS = weights_from g n w₀

  abbrev all-lifted : Bool
  all-lifted = all_below (λ i. is_lifted (lifted p n k s t KS PS g WS i)) n

  abbrev all-blended : Bool
  all-blended = all_below (λ i. is_blended (blended p n k s t KS PS g WS i)) (n + 1)

  abbrev lastly : Refusal
  lastly = formed_refusal p (n + 1) (more_knots k t KS) (more_points p n k s t KS PS g WS) g (more_weights p n k s t KS PS g WS)

  pub form-19 : all-lifted ≡ false → (r : Refusal) → r ≡ refuse ControlBad → (w₂ : List Float) → Formed a p n k s t KS PS g WS w₀ w₂ (Err r)
  unfolding form_refusal checked
  form-19 F r e w₂ = record {
    refusal = ap Err e ∙ ap checked (first_of all-lifted all-blended (refuse ControlBad) (refuse EditBad) lastly F);
    holds = λ z. cc;
  }

  module _ (K : k < n) (o : Vector) (O : o ≡ vector_of (row_of g w₀ 0)) (w₁ : List Float) (A : LiftDone g (lifted p n k s t KS PS g WS) n w₀ w₁ true) where
    o_is : o ≡ point_of PS 0
    o_is = O ∙ sym (row-point g n w₀ 0 (omega arith))

    module _ (S : s ≤ p) (P : p ≤ k) (room : (n + 1) * 4 ≤ a) (l : a + (n + p + 1) < length w₀) (L₁ : length w₁ ≡ length w₀) (v : ValidKnots p (n + 1) (more_knots k t KS))
        (w₂ : List Float) (r : Result Unit Refusal)
        (B : LowerDone o g (blend_at p k s t (knots_from a p n w₁) (row_of g w₁)) (n + 1) w₁ w₂ r) where
      -- the knots stay where they are
      pub knots-kept : (m : ℕ) (xs ys : List Float) → m * 4 ≤ a → length xs ≡ length ys → ((j : ℕ) → Untouched g m j → at xs j ≡ at ys j) → knots_from a p n xs ≡ knots_from a p n ys
      knots-kept m xs ys b L h =
          let e : length (knots_from a p n xs) ≡ length (knots_from a p n ys) = length-take (n + p + 1) (drop a xs)
          ∙ (omega (arith, length-drop a xs, length-drop a ys) ∙ sym (length-take (n + p + 1) (drop a ys))) in
          ext_get_or nan (knots_from a p n xs) (knots_from a p n ys) e
          (λ j c.
          let d : j < n + p + 1 = omega (arith, length-take (n + p + 1) (drop a xs)) in
          knot-from a p n xs j d ∙ (h (a + j) (inl (omega arith)) ∙ sym (knot-from a p n ys j d)))

      lower-done : LowerDone (point_of PS 0) g (blended p n k s t KS PS g WS) (n + 1) w₁ w₂ r
      lower-done = lower-cong (point_of PS 0) g (blend_at p k s t KS (row_of g w₁)) (blended p n k s t KS PS g WS) (n + 1) w₁ w₂ r
          (blend-cong p k s t KS (row_of g w₁) (lifted p n k s t KS PS g WS) n S P K (A.rows refl))
          (subst (λ (y : Vector). LowerDone y g (blend_at p k s t KS (row_of g w₁)) (n + 1) w₁ w₂ r) o_is
          (subst (λ (ks : List Float). LowerDone o g (blend_at p k s t ks (row_of g w₁)) (n + 1) w₁ w₂ r) (knots-kept n w₁ w₀ (omega arith) L₁ A.rest) B))

      abbrev all-fine : Bool
      all-fine = all_below (λ i. finite_vector (lower_of (point_of PS 0) (blended p n k s t KS PS g WS i))) (n + 1)

      abbrev first-bad : Refusal
      first-bad = placed (off_at (λ i. finite_vector (lower_of (point_of PS 0) (blended p n k s t KS PS g WS i))) (n + 1)) (refuse PointNotFinite)

      left : all-blended ≡ true → cond (not all-fine) first-bad accepted ≡ lastly
      unfolding more_points more_weights
      left h =
          ap₂ (λ (y : Bool) (i : ℕ). cond (not y) (placed i (refuse PointNotFinite)) accepted)
          (sym (points-finite (point_of PS 0) (blended p n k s t KS PS g WS) (n + 1))) (sym (points-place (point_of PS 0) (blended p n k s t KS PS g WS) (n + 1)))
          ∙ (points-left (n + 1) (more_points p n k s t KS PS g WS) g (blended p n k s t KS PS g WS) h
          ∙ controls-left p (n + 1) (more_knots k t KS) (more_points p n k s t KS PS g WS) g (more_weights p n k s t KS PS g WS) v)

      refusal_is : r ≡ checked (form_refusal p n k s t KS PS g WS)
      unfolding form_refusal lower_refusal
      refusal_is = joined all-lifted all-blended all-fine (refuse ControlBad) (refuse EditBad) first-bad lastly r (sym A.answer) left lower-done.answer

      pub form-late : (r ≡ Ok tt → ⊥) → Formed a p n k s t KS PS g WS w₀ w₂ r
      form-late h = record { refusal = refusal_is; holds = λ z. absurd (h z) }

      module _ (L₂ : length w₂ ≡ length w₁) (w₃ : List Float) (L₃ : length w₃ ≡ length w₂) (E : w₃ ≡ tabulate (a + (n + p + 1) + 1) (knot_at (a + k) t w₂) ++ drop (a + (n + p + 1) + 1) w₂) where
        low : (j : ℕ) → j < a → at w₃ j ≡ at w₂ j
        low j b = put_low a p n k t K w₂ w₃ (omega arith) E j (omega arith)

        row_is : r ≡ Ok tt → (i : ℕ) → i < n + 1 → row_of g w₃ i ≡ stored g (kept_row (lower_of (point_of PS 0) (blended p n k s t KS PS g WS i)) (blended p n k s t KS PS g WS i).w)
        row_is z i b = rows_same g w₃ w₂ i (λ c d. low (i * 4 + c) (omega arith)) ∙ lower-done.rows z i b

        points-are : r ≡ Ok tt → points_from (n + 1) w₃ ≡ more_points p n k s t KS PS g WS
        unfolding more_points
        points-are z = tabulate-cong ((n + 1) * 3) (λ j. at w₃ (j / 3 * 4 + j % 3)) (lower_at (point_of PS 0) (blended p n k s t KS PS g WS))
            (λ j b. row-axis g (n + 1) w₃ (j / 3) (j % 3) (omega arith) ∙ (ap (λ (q : Control). axis (j % 3) (vector_of q)) (row_is z (j / 3) (omega arith))
            ∙ lower-is (point_of PS 0) (blended p n k s t KS PS g WS) (j / 3) (j % 3) j refl refl))

        weights-are : (c : Bool) → c ≡ g → r ≡ Ok tt → weights_from c (n + 1) w₃ ≡ tabulate (given c (n + 1)) (weight_in (blended p n k s t KS PS g WS))
        weights-are true e z = tabulate-cong (n + 1) (λ j. at w₃ (j * 4 + 3)) (weight_in (blended p n k s t KS PS g WS))
            (λ j b. ap (λ (y : Bool). cond y (at w₃ (j * 4 + 3)) one+) e ∙ (ap (λ (q : Control). q.w) (row_is z j b) ∙ ap (λ (y : Bool). cond y (blended p n k s t KS PS g WS j).w one+) (sym e)))
        weights-are false e z = refl

        pub form-end : Formed a p n k s t KS PS g WS w₀ w₃ r
        unfolding more_weights
        form-end = record {
          refusal = refusal_is;
          holds = λ z. record {
            knots = put-knots a p n k t K w₂ w₃ (omega arith) E L₃ ∙ ap (more_knots k t) (knots-kept (n + 1) w₂ w₁ room L₂ B.rest ∙ knots-kept n w₁ w₀ (omega arith) L₁ A.rest);
            points = points-are z;
            weights = weights-are g refl z;
            rest = λ j u b. outer j b ∙ (B.rest j u ∙ A.rest j (untouched-less g n j u));
          };
        }
          where
            outer : (j : ℕ) → Outside a p (n + 1) j → at w₃ j ≡ at w₂ j
            outer j (inl b) = low j b
            outer j (inr b) = put-high a p n k t K w₂ w₃ (omega arith) E j (omega arith)

-- ---- the whole
module _ (p n : ℕ) (ks ps : List Float) (g : Bool) (ws : List Float) (t : Float) where
  -- a knot that is not refused lies in the domain, and there is room for it
  pub record SpotOpen (s : ℕ) : Type 0 where
    pub within : Within p n ks t
    pub low : lt (at ks p) t ≡ true
    pub high : lt t (at ks n) ≡ true
    pub room : s ≤ p

  pub spot-open : (s : ℕ) → ValidKnots p n ks → (spot_refusal (at ks p) (at ks n) t p s).number ≡ 0 → SpotOpen s
  unfolding spot_refusal inside
  spot-open s v h =
      let C = v.count in
      let L = v.long in
      let a = passed (not (inside (at ks p) (at ks n) t)) (refuse KnotOutside) _ (λ e. omega arith) h in
      let b = passed (ltb p s) (refuse KnotFull) accepted (λ e. omega arith) a.1 in
      let i = not-false (inside (at ks p) (at ks n) t) a.0 in
      let f : finite t ≡ true = and_left (finite t) _ i in
      let r = and_right (finite t) _ i in
      let x = le-fails t (at ks p) f (v.finites p (omega arith)) (not-true _ (and_left (not (le t (at ks p))) _ r)) in
      let y = le-fails (at ks n) t (v.finites n (omega arith)) f (not-true _ (and_right (not (le t (at ks p))) _ r)) in
      record {
        within = record { parameter = f; low = lt-asym (at ks p) t x; high = lt-asym t (at ks n) y };
        low = x;
        high = y;
        room = ltb-false p s b.0;
      }

  -- where it goes, and that the knots with it are valid
  pub spot-found : (s k : ℕ) → s ≡ multiplicity_of ks t → ValidKnots p n ks → SpotOpen s → SpanFound p n ks t k → SpanAt p n ks t k × (k ≡ span_of p n ks t) × ValidKnots p (n + 1) (more_knots k t ks)
  spot-found s k S v o F =
      let a = span-found p n ks t v o.within k F in
      (a.0, a.1, grown-valid p n ks v t o.within.parameter k a.0 o.low o.high (subst (λ (i : ℕ). i ≤ p) S o.room))

  module _ (a : ℕ) (w₀ w₁ : List Float) (s k : ℕ) (S : s ≡ multiplicity_of ks t) where
    pub insert-early : (r : Refusal) → Err r ≡ checked (spot_refusal (at ks p) (at ks n) t p s) → Inserted a p n ks ps g ws t w₀ w₁ (Err r)
    unfolding insert_refusal
    insert-early r E = record { refusal = refused-first _ _ (E ∙ ap (λ (i : ℕ). checked (spot_refusal (at ks p) (at ks n) t p i)) S); holds = λ z. cc }

    pub insert-done : (r : Result Unit Refusal) → (spot_refusal (at ks p) (at ks n) t p s).number ≡ 0 → k ≡ span_of p n ks t → Formed a p n k s t ks ps g ws w₀ w₁ r
        → Inserted a p n ks ps g ws t w₀ w₁ r
    unfolding insert_refusal inserted_knots inserted_points inserted_weights
    insert-done r z K F =
        let D : (spot_refusal (at ks p) (at ks n) t p (multiplicity_of ks t)).number ≡ 0 = subst (λ (i : ℕ). (spot_refusal (at ks p) (at ks n) t p i).number ≡ 0) S z in
        let G = subst (λ (i : ℕ). Formed a p n (span_of p n ks t) i t ks ps g ws w₀ w₁ r) S (subst (λ (i : ℕ). Formed a p n i s t ks ps g ws w₀ w₁ r) K F) in
        record { refusal = simp (eq-eqb (spot_refusal (at ks p) (at ks n) t p (multiplicity_of ks t)).number 0 D) G.refusal; holds = G.holds }

-- the same span, where the same knots are written another way
pub moved-span : {p n k : ℕ} {t : Float} {ks ls : List Float} → ks ≡ ls → SpanFound p n ks t k → SpanFound p n ls t k
moved-span {p} {n} {k} {t} e F = subst (λ (l : List Float). SpanFound p n l t k) e F
