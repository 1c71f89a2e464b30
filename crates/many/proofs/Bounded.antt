-- The rows of `bound_spans` and `bound_points`: a nonempty span is the first that contains its own closed range, so its row is what `bound_curve` answers; and each turn of the loop stores one more.
-- Assumes nothing.
use Prim.Native.Nat.{ℕ, zero, suc, ◌+◌, ◌-◌, ◌*◌, ◌≤◌, ◌<◌}
use mathlib.Core.Bool.{Bool, true, false, cond}
use mathlib.Core.Path.{◌≡◌, refl, sym, ◌∙◌, ap, ap₂, subst}
use mathlib.Core.Logic.{◌⊎◌, inl, inr}
use mathlib.Core.List.{List, [], ◌∷◌, ◌++◌, append_assoc, append-nil}
use native.Mathlib.Omega.{arith}
use native.Mathlib.Nat.{eq-or-lt_of_le, le_trans, add-zero, add-suc, suc-mul, mul-le-mul_right}
use native.Mathlib.Numerals.{add-one}
use lib.ListN.{length, drop, replicate, length-append, length-replicate}
use lib.Seq.{sets}
use lib.Ieee.{Float, lt, le}
use lib.Ieee.Scale.{finite}
use Rattle.exact.specs.Rational.{◌<q◌}
use Rattle.exact.proofs.Field.{≤-refl, ≤_trans, not-both}
use Rattle.doubles.specs.Run.{at, val_at}
use Rattle.doubles.specs.Value.{zero+, val}
use Rattle.doubles.proofs.TestFacts.{T_of, Tn-of}
use Rattle.doubles.proofs.Value.{val-lt}
use Rattle.doubles.proofs.Order.{finite_number, val-leq, not-le}
use Rattle.knots.specs.Knots.{ValidKnots}
use Rattle.knots.specs.Span.{nonempty}
use Rattle.knots.specs.Clear.{zeros}
use Rattle.knots.specs.Curve.{count_of, ValidCurve}
use Rattle.knots.specs.declared.refusal.Refusal.{Refusal}
use Rattle.std.specs.Prelude.{Err}
use Rattle.knots.specs.Refusal.{checked}
use borrow.Author.Tests.{eq-eqb}
use Rattle.knots.proofs.Refusals.{refused-first}
use Rattle.knots.proofs.Below.{and_right}
use Rattle.knots.proofs.Curves.{curve-not-refused}
use Rattle.knots.proofs.Fractions.{knots-of}
use Rattle.ranges.specs.Range.{in_span, first_from, span_over}
use Rattle.bounds.specs.Curve.{bound_of, bound_at}
use Rattle.interval.specs.declared.Interval.{Interval}
use Rattle.bounds.specs.declared.answer.Triple.{Triple}
use Rattle.bounds.specs.declared.answer.NurbsBounds.{NurbsBounds}
use Rattle.bounds.specs.Holds.{HoldsOn}
use Rattle.bounds.specs.Numbers.{six_of, stored_six}
use Rattle.bounds.proofs.CurveHolds.{bound-holds, step-is-bound}
use Rattle.runs.specs.Fraction.{coordinate_value}
use Rattle.runs.proofs.Stores.{sets-three}
use Rattle.many.proofs.Said.{box-says}
use Rattle.many.specs.Rows.{rows_by}
use Rattle.many.specs.Start.{table_refusal, rooms_refusal}
use Rattle.many.specs.Spans.{spans_from, spans_of, box_width, bound_in, row_by, marks_of, box_of, box_of_by, mark_at, box_at_by, spans_start, spans_start_by}
use Rattle.many.specs.declared.boxes.BoxRow.{BoxRow}
use Rattle.many.proofs.Rows.{InRows, in_start, in-more, rooms-open}

-- ---- a row
abbrev pub all_of : Interval → Triple
all_of i = record { x = i; y = i; z = i }

abbrev pub beside : Triple → Triple → NurbsBounds
beside p t = record { point = p; du = t; dv = t }

abbrev pub numbered_row : ℕ → NurbsBounds → BoxRow
numbered_row n b = record { number = n; bounds = b }

pub box-width-small : (d : Bool) → box_width d ≤ 18
box-width-small true = omega arith
box-width-small false = omega arith

-- what the stores of a row leave
pub box-stored : (r : BoxRow) (l : List Float) (i : ℕ) (l₁ l₂ l₃ : List Float) → l₁ ≡ stored_six l (i * 18) r.bounds.point → l₂ ≡ stored_six l₁ (i * 18 + 6) r.bounds.du → l₃ ≡ stored_six l₂ (i * 18 + 12) r.bounds.dv
    → l₃ ≡ sets l (i * 18) (box_of r)
box-stored r l i l₁ l₂ l₃ e₁ e₂ e₃ =
    (e₃ ∙ ap (λ (m : List Float). stored_six m (i * 18 + 12) r.bounds.dv) (e₂ ∙ ap (λ (m : List Float). stored_six m (i * 18 + 6) r.bounds.du) e₁))
    ∙ sets-three (six_of r.bounds.point) (six_of r.bounds.du) (six_of r.bounds.dv) l (i * 18) (i * 18 + 6) (i * 18 + 12) refl (omega arith)

-- ---- the list of spans
module _ (ks : List Float) where
  abbrev here : ℕ → List ℕ
  here s = cond (nonempty ks s) (s ∷ []) []

  spans-suc : (k s : ℕ) → spans_from (suc k) ks s ≡ spans_from k ks s ++ here (s + k)
  unfolding spans_from
  spans-suc zero s = append-nil (here s) ∙ ap here (sym (add-zero s))
  spans-suc (suc k) s =
      let e : s + 1 + k ≡ s + suc k = omega arith in
      ap (λ (l : List ℕ). here s ++ l) (spans-suc k (s + 1) ∙ ap (λ (j : ℕ). spans_from k ks (s + 1) ++ here j) e) ∙ sym (append_assoc (here s) (spans_from k ks (s + 1)) (here (s + suc k)))

  one : (s : ℕ) → length (here s) ≤ 1
  one s = go (nonempty ks s)
    where
      go : (b : Bool) → length (cond b (s ∷ []) []) ≤ 1
      go true = omega arith
      go false = omega arith

  -- there are no more than places
  pub spans-few : (k s : ℕ) → length (spans_from k ks s) ≤ k
  unfolding spans_from
  spans-few zero s = omega arith
  spans-few (suc k) s =
      let a = one s in
      let b = spans-few k (s + 1) in
      let c = length-append (here s) (spans_from k ks (s + 1)) in
      omega (arith, a, b, c)

  spans-add : (k j s : ℕ) → length (spans_from k ks s) ≤ length (spans_from (k + j) ks s)
  spans-add k zero s = let e : length (spans_from (k + 0) ks s) ≡ length (spans_from k ks s) = ap (λ (i : ℕ). length (spans_from i ks s)) (add-zero k) in omega (arith, e)
  spans-add k (suc j) s =
      let a = spans-add k j s in
      let b : length (spans_from (k + suc j) ks s) ≡ length (spans_from (k + j) ks s) + length (here (s + (k + j))) = ap (λ (i : ℕ). length (spans_from i ks s)) (add-suc k j)
      ∙ (ap length (spans-suc (k + j) s) ∙ length-append (spans_from (k + j) ks s) (here (s + (k + j)))) in
      omega (arith, a, b)

  -- the first places have no more
  pub spans-grow : (k m s : ℕ) → k ≤ m → length (spans_from k ks s) ≤ length (spans_from m ks s)
  spans-grow k m s l = let e : k + (m - k) ≡ m = omega arith in subst (λ (i : ℕ). length (spans_from k ks s) ≤ length (spans_from i ks s)) e (spans-add k (m - k) s)

  -- one place more
  module _ (p s : ℕ) (l : p ≤ s) where
    spans-at : spans_from (s + 1 - p) ks p ≡ spans_from (s - p) ks p ++ here s
    spans-at =
        let e : s + 1 - p ≡ suc (s - p) = omega arith in
        let f : p + (s - p) ≡ s = omega arith in
        ap (λ (k : ℕ). spans_from k ks p) e ∙ (spans-suc (s - p) p ∙ ap (λ (j : ℕ). spans_from (s - p) ks p ++ here j) f)

    pub spans-here : nonempty ks s ≡ true → spans_from (s + 1 - p) ks p ≡ spans_from (s - p) ks p ++ s ∷ []
    spans-here h = spans-at ∙ ap (λ (b : Bool). spans_from (s - p) ks p ++ cond b (s ∷ []) []) h

    pub spans-not : nonempty ks s ≡ false → spans_from (s + 1 - p) ks p ≡ spans_from (s - p) ks p
    spans-not h = spans-at ∙ (ap (λ (b : Bool). spans_from (s - p) ks p ++ cond b (s ∷ []) []) h ∙ append-nil (spans_from (s - p) ks p))

    -- the same, counted
    pub count-here : (n : ℕ) → n ≡ length (spans_from (s - p) ks p) → nonempty ks s ≡ true → n + 1 ≡ length (spans_from (s + 1 - p) ks p)
    count-here n e h = ap (λ (k : ℕ). k + 1) e ∙ sym (ap length (spans-here h) ∙ length-append (spans_from (s - p) ks p) (s ∷ []))

    pub count-not : (n : ℕ) → n ≡ length (spans_from (s - p) ks p) → nonempty ks s ≡ false → n ≡ length (spans_from (s + 1 - p) ks p)
    count-not n e h = e ∙ ap length (sym (spans-not h))

  pub count_none : (p : ℕ) → 0 ≡ length (spans_from (p - p) ks p)
  unfolding spans_from
  count_none p = let e : 0 ≡ p - p = omega arith in ap (λ (k : ℕ). length (spans_from k ks p)) e

-- ---- the span of a span's own range
first-at : (f : ℕ → Bool) (k i s : ℕ) → i ≤ s → s < i + k → f s ≡ true → ((j : ℕ) → i ≤ j → j < s → f j ≡ false) → first_from f k i ≡ s
unfolding first_from
first-at f zero i s l b t n = absurd (omega arith)
first-at f (suc k) i s l b t n = go (eq-or-lt_of_le l) (λ h. first-at f k (i + 1) s (omega arith) (omega arith) t (λ j a c. n j (omega arith) c))
  where
    go : (i ≡ s) ⊎ (i < s) → (i < s → first_from f k (i + 1) ≡ s) → cond (f i) i (first_from f k (i + 1)) ≡ s
    go (inl e) rest = let h : f i ≡ true = subst (λ (j : ℕ). f j ≡ true) (sym e) t in simp h e
    go (inr h) rest = let d : f i ≡ false = n i (omega arith) h in simp d (rest h)

equal-le : (x : Float) → finite x ≡ true → le x x ≡ true
equal-le x h = go (le x x) refl
  where
    go : (b : Bool) → le x x ≡ b → b ≡ true
    go true e = refl
    go false e =
        let F = T_of (finite x) h in
        absurd (not-both (val-lt x x F F (not-le x x (finite_number x F) (finite_number x F) (Tn-of (le x x) e))) (≤-refl (val x)))

module _ (p n : ℕ) (ks : List Float) (v : ValidKnots p n ks) (s : ℕ) (f : p ≤ s) (b : s < n) (h : nonempty ks s ≡ true) where
  own-span : in_span ks (at ks s) (at ks (s + 1)) s ≡ true
  unfolding in_span
  own-span = let l = v.long in simp (h, equal-le (at ks s) (v.finites s (omega arith)), equal-le (at ks (s + 1)) (v.finites (s + 1) (omega arith)))

  none_before : (j : ℕ) → p ≤ j → j < s → in_span ks (at ks s) (at ks (s + 1)) j ≡ false
  unfolding in_span
  none_before j a c = go (in_span ks (at ks s) (at ks (s + 1)) j) refl
    where
      go : (x : Bool) → in_span ks (at ks s) (at ks (s + 1)) j ≡ x → x ≡ false
      go false e = refl
      go true e =
          let l = v.long in
          let K = knots-of p n ks v s b h in
          let q = and_right (le (at ks j) (at ks s)) _ (and_right (lt (at ks j) (at ks (j + 1))) _ e) in
          let d = val-leq (at ks (s + 1)) (at ks (j + 1)) (T_of _ (v.finites (s + 1) (omega arith))) (T_of _ (v.finites (j + 1) (omega arith))) (T_of _ q) in
          absurd (not-both (subst (λ (i : ℕ). val_at ks s <q val_at ks i) (sym (add-one s)) K.gap) (≤_trans d (K.mono (j + 1) s (omega arith) (omega arith))))

  pub own_first : span_over p n ks (at ks s) (at ks (s + 1)) ≡ s
  unfolding span_over
  own_first = first-at (in_span ks (at ks s) (at ks (s + 1))) (n - p) p s f (omega arith) own-span none_before

-- ---- the loop
module _ (d : Bool) (p : ℕ) (ks ps : List Float) (g : Bool) (ws : List Float) where
  -- the places below s are done, i of them are rows
  pub record InSpans (m₀ : List ℕ) (b₀ : List Float) (m₁ : List ℕ) (b₁ : List Float) (i s : ℕ) : Type 0 where
    pub from : p ≤ s
    pub upto : s ≤ count_of ps
    pub count : i ≡ length (spans_from (s - p) ks p)
    pub marks : InRows (mark_at p ks ps g ws) 2 m₀ (spans_from (s - p) ks p) (i * 2) m₁
    pub boxes : InRows (box_at_by p ks ps g ws d) (box_width d) b₀ (spans_from (s - p) ks p) (i * box_width d) b₁

module _ (d : Bool) (p : ℕ) (ks ps : List Float) (g : Bool) (ws : List Float) (v : ValidCurve p ks ps g ws) where
  -- the step on a span answers what bound_curve answers on its closed range
  pub bound-same : (s : ℕ) → p ≤ s → s < count_of ps → nonempty ks s ≡ true → bound_at p s ks ps g ws (at ks s) (at ks (s + 1)) ≡ bound_of p ks ps g ws (at ks s) (at ks (s + 1))
  bound-same s f b h =
      subst (λ (i : ℕ). bound_at p i ks ps g ws (at ks s) (at ks (s + 1)) ≡ bound_of p ks ps g ws (at ks s) (at ks (s + 1))) (own_first p (count_of ps) ks v.knots s f b h)
      (step-is-bound p ks ps ws g (at ks s) (at ks (s + 1)) (ap (λ (r : Refusal). r.number) (curve-not-refused p ks ps g ws v)))

  abbrev w : ℕ
  w = box_width d

  fits : (s : ℕ) → length (box_at_by p ks ps g ws d s) ≡ w
  fits s = (box-says d (bound_in p ks ps g ws s)).count

  module _ (m₀ : List ℕ) (b₀ : List Float) where
    pub spans-start : InSpans d p ks ps g ws m₀ b₀ m₀ b₀ 0 p
    unfolding spans_from
    spans-start =
        let l = v.knots.count in
        let e : 0 ≡ p - p = omega arith in
        let z : [] ≡ spans_from (p - p) ks p = ap (λ (k : ℕ). spans_from k ks p) e in
        let n : 0 ≡ 0 * w = omega arith in
        record {
          from = omega arith;
          upto = omega arith;
          count = ap length z;
          marks = subst (λ (l : List ℕ). InRows (mark_at p ks ps g ws) 2 m₀ l 0 m₀) z (in_start (mark_at p ks ps g ws) 2 (λ s. refl) m₀);
          boxes = subst (λ (l : List ℕ). InRows (box_at_by p ks ps g ws d) w b₀ l (0 * w) b₀) z (subst (λ (k : ℕ). InRows (box_at_by p ks ps g ws d) w b₀ [] k b₀) n (in_start (box_at_by p ks ps g ws d) w fits b₀));
        }

    module _ (m₁ : List ℕ) (b₁ : List Float) (i s : ℕ) (I : InSpans d p ks ps g ws m₀ b₀ m₁ b₁ i s) (l : s < count_of ps) where
      pub spans-skip : nonempty ks s ≡ false → InSpans d p ks ps g ws m₀ b₀ m₁ b₁ i (s + 1)
      spans-skip h =
          let a = I.from in
          let z = sym (spans-not ks p s a h) in
          record {
            from = omega arith;
            upto = omega arith;
            count = count-not ks p s a i I.count h;
            marks = subst (λ (l : List ℕ). InRows (mark_at p ks ps g ws) 2 m₀ l (i * 2) m₁) z I.marks;
            boxes = subst (λ (l : List ℕ). InRows (box_at_by p ks ps g ws d) w b₀ l (i * w) b₁) z I.boxes;
          }

      -- a row more has room
      pub spans-room : nonempty ks s ≡ true → i + 1 ≤ length (spans_of p ks ps)
      spans-room h =
          let a = I.count in
          let b = I.from in
          let c = count-here ks p s I.from i I.count h in
          let e = spans-grow ks (s + 1 - p) (count_of ps - p) p (omega arith) in
          omega (arith, a, c, e)

      pub spans_fit : nonempty ks s ≡ true → length (spans_of p ks ps) * 2 ≤ length m₀ → (i * 2 + 1 < length m₁) × (i < 1048576)
      spans_fit h lm =
          let r = spans-room h in
          let a = I.marks.long in
          let c = v.short.points in
          let b = v.triples in
          let e = I.count in
          let f = spans-few ks (s - p) p in
          (omega (arith, r, a, lm), omega (arith, c, b, e, f, l))

      pub spans-more : nonempty ks s ≡ true → length (spans_of p ks ps) * 2 ≤ length m₀ → length (spans_of p ks ps) * w ≤ length b₀
          → (x : BoxRow) → x ≡ row_by d (bound_at p s ks ps g ws (at ks s) (at ks (s + 1)))
          → (m₂ : List ℕ) (b₂ : List Float) → m₂ ≡ sets m₁ (i * 2) (marks_of s x) → b₂ ≡ sets b₁ (i * w) (box_of_by d x) → InSpans d p ks ps g ws m₀ b₀ m₂ b₂ (i + 1) (s + 1)
      spans-more h lm lb x ex m₂ b₂ em eb =
          let f = I.from in
          let z = spans-here ks p s f h in
          let r = spans-room h in
          let row : x ≡ row_by d (bound_in p ks ps g ws s) = ex ∙ ap (row_by d) (bound-same s f l h) in
          let says = box-says d (bound_in p ks ps g ws s) in
          let next : (i + 1) * w ≡ i * w + w = ap (λ (k : ℕ). k * w) (add-one i) ∙ suc-mul i w in
          let room : i * w + w ≤ length b₀ = le_trans (subst (λ (k : ℕ). k ≤ length (spans_of p ks ps) * w) next (mul-le-mul_right w r)) lb in
          record {
            from = omega arith;
            upto = omega arith;
            count = count-here ks p s f i I.count h;
            marks =
                subst
                (λ (y : List ℕ). InRows (mark_at p ks ps g ws) 2 m₀ (spans_from (s + 1 - p) ks p) ((i + 1) * 2) y) (sym em)
                (in-more
                (mark_at p ks ps g ws) 2 (λ s. refl) m₀ (spans_from (s - p) ks p) (spans_from (s + 1 - p) ks p) s (i * 2) ((i + 1) * 2) m₁ (marks_of s x) I.marks
                (ap (marks_of s) row ∙ ap (λ (n : ℕ). s ∷ n ∷ []) says.number) (omega arith) (omega arith) z);
            boxes =
                subst
                (λ (y : List Float). InRows (box_at_by p ks ps g ws d) w b₀ (spans_from (s + 1 - p) ks p) ((i + 1) * w) y) (sym eb)
                (in-more
                (box_at_by p ks ps g ws d) w fits b₀ (spans_from (s - p) ks p) (spans_from (s + 1 - p) ks p) s (i * w) ((i + 1) * w) b₁ (box_of_by d x) I.boxes
                (ap (box_of_by d) row ∙ says.numbers) room next z);
          }

-- ---- the bounds of each row hold the point and its derivative
pub row-holds : (p : ℕ) (ks ps : List Float) (g : Bool) (ws : List Float) → ValidCurve p ks ps g ws → (s : ℕ) → p ≤ s → s < count_of ps → nonempty ks s ≡ true
    → HoldsOn p s ks (count_of ps) g ws (at ks s) (at ks (s + 1)) (coordinate_value ps) (bound_in p ks ps g ws s)
row-holds p ks ps g ws v s f b h =
    subst (λ (k : ℕ). HoldsOn p k ks (count_of ps) g ws (at ks s) (at ks (s + 1)) (coordinate_value ps) (bound_in p ks ps g ws s)) (own_first p (count_of ps) ks v.knots s f b h)
    (bound-holds p ks ps ws g (at ks s) (at ks (s + 1)))

-- ---- before and after the loop
module _ (p : ℕ) (ks ps : List Float) (g : Bool) (ws : List Float) where
  -- there are no more rows than numbers in a run
  pub rows_few : ValidCurve p ks ps g ws → length (spans_of p ks ps) ≤ 1048576
  rows_few v =
      let a = spans-few ks (count_of ps - p) p in
      let b = v.short.points in
      let c = v.triples in
      omega (arith, a, b, c)

  pub table-stops : (w a b : ℕ) (r : Refusal) → Err r ≡ checked (table_refusal p ks ps g ws) → Err r ≡ checked (spans_start_by p ks ps g ws w a b)
  unfolding spans_start_by
  table-stops w a b r e = refused-first _ _ e

  -- the lent run after the loop
  abbrev pub after : Bool → List Float → List Float
  after d b₀ = let n = length (spans_of p ks ps) in rows_by (box_at_by p ks ps g ws d) (spans_of p ks ps) ++ drop (n * box_width d) b₀

  -- eighteen numbers a box
  pub start-same : (a b : ℕ) → spans_start_by p ks ps g ws 18 a b ≡ spans_start p ks ps g ws a b
  unfolding spans_start spans_start_by
  start-same a b = refl

  -- lent runs by their own lengths
  pub rooms-last : (w a b : ℕ) (m₀ : List ℕ) (b₀ : List Float) → m₀ ≡ replicate a 0 → b₀ ≡ zeros b → (table_refusal p ks ps g ws).number ≡ 0
      → (n : ℕ) → n ≡ length (spans_of p ks ps) → rooms_refusal (length m₀) (n * 2) (length b₀) (n * w) ≡ spans_start_by p ks ps g ws w a b
  unfolding spans_start_by
  rooms-last w a b m₀ b₀ cm cb ht n en =
      (ap₂ (λ (x y : ℕ). rooms_refusal x (n * 2) y (n * w)) (ap length cm ∙ length-replicate a 0) (ap length cb ∙ length-replicate b zero+)
      ∙ (ap (λ (k : ℕ). rooms_refusal a (k * 2) b (k * w)) en ∙ sym (simp (eq-eqb (table_refusal p ks ps g ws).number 0 ht))))

  pub spans-fits : (w a b n : ℕ) → n ≡ length (spans_of p ks ps) → (rooms_refusal a (n * 2) b (n * w)).number ≡ 0
      → (length (spans_of p ks ps) * 2 ≤ a) × (length (spans_of p ks ps) * w ≤ b)
  spans-fits w a b n en h =
      subst (λ (k : ℕ). (k * 2 ≤ a) × (k * w ≤ b)) en (rooms-open a (n * 2) b (n * w) h)
