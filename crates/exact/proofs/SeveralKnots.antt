-- Several knots inserted, one after the other: the sum and the exact point are what they were. Assumes nothing.
-- l is the insertions; s a span after all of them, and held_all l s the span of the old knots that holds it.
use mathlib.Core.Path.{◌≡◌, ◌∙◌, ap, subst}
use mathlib.Core.List.{List, [], ◌∷◌}
use Prim.Native.Nat.{ℕ, suc, ◌+◌, ◌≤◌, ◌<◌}
use native.Mathlib.Omega.{arith}
use lib.ListN.{length}
use Rattle.exact.specs.Rational.{ℚ, q0, ◌≤q◌, ◌<q◌}
use Rattle.exact.specs.Spline.{whole, exact}
use Rattle.exact.specs.Boehm.{SpanOf, InSpan, InEnd, Insert, Fits, Between, refined, inserted, inserted_point, refined_all, held_all, inserted_all, inserted_point_all}
use Rattle.exact.proofs.Refined.{refined-is, new-order, one_span, one_end}
use Rattle.exact.proofs.OneKnot.{held-span, held_in, held-end, insertion-whole, insertion-point, weights-pos}

-- knots between their neighbours leave the knots in order
pub insertions-order : (l : List Insert) (U : ℕ → ℚ) (count p : ℕ) {after : ℕ} → length l + count ≡ after → Fits p count l → Between U l
    → ((i j : ℕ) → i ≤ j → j < count + suc p → U i ≤q U j) → (i j : ℕ) → i ≤ j → j < after + suc p → refined_all U l i ≤q refined_all U l j
unfolding refined_all
insertions-order [] U count p e f b mono = λ i j h g. mono i j h (omega arith)
insertions-order (a ∷ l) U count p e f b mono =
    let low : a.place < count = f.1 in
    insertions-order l (refined U a.knot a.place) (suc count) p (omega arith) f.2 b.2
    (λ i j h g. new-order (refined-is U a.knot a.place) (count + suc p) (omega arith) mono b.0 b.1 i j h (omega arith))

-- the old span is a nonempty span of the old curve
pub held_all-span : (l : List Insert) (U : ℕ → ℚ) (count : ℕ) {p after s : ℕ} → length l + count ≡ after → Fits p count l → SpanOf (refined_all U l) p after s
    → SpanOf U p count (held_all l s)
unfolding refined_all held_all
held_all-span [] U count {p} {after} {s} e f S = let g : after ≡ count = omega arith in subst (λ n. SpanOf U p n s) g S
held_all-span (a ∷ l) U count e f S = held-span U a.knot a.place f.0 f.1 (held_all-span l (refined U a.knot a.place) (suc count) (omega arith) f.2 S)

pub held_all-in : (l : List Insert) (U : ℕ → ℚ) (count : ℕ) {p after s : ℕ} → length l + count ≡ after → Fits p count l → SpanOf (refined_all U l) p after s
    → {t : ℚ} → InSpan (refined_all U l) s t → InSpan U (held_all l s) t
unfolding refined_all held_all
held_all-in [] U count e f S I = I
held_all-in (a ∷ l) U count e f S I =
    let V' = refined U a.knot a.place in
    held_in U a.knot a.place f.0 f.1 (held_all-span l V' (suc count) (omega arith) f.2 S) (held_all-in l V' (suc count) (omega arith) f.2 S I)

pub held_all-end : (l : List Insert) (U : ℕ → ℚ) (count : ℕ) {p after s : ℕ} → length l + count ≡ after → Fits p count l → SpanOf (refined_all U l) p after s
    → {t : ℚ} → InEnd (refined_all U l) s t → InEnd U (held_all l s) t
unfolding refined_all held_all
held_all-end [] U count e f S I = I
held_all-end (a ∷ l) U count e f S I =
    let V' = refined U a.knot a.place in
    held-end U a.knot a.place f.0 f.1 (held_all-span l V' (suc count) (omega arith) f.2 S) (held_all-end l V' (suc count) (omega arith) f.2 S I)

-- the sum over all the points is what it was
pub insertions-whole : (l : List Insert) (U : ℕ → ℚ) (count : ℕ) {p after s : ℕ} → length l + count ≡ after → Fits p count l → SpanOf (refined_all U l) p after s
    → (t : ℚ) (c : ℕ → ℚ) → whole (refined_all U l) t s p after (inserted_all U p l c) ≡ whole U t (held_all l s) p count c
unfolding refined_all held_all inserted_all
insertions-whole [] U count {p} {after} {s} e f S t c = let g : after ≡ count = omega arith in ap (λ n. whole U t s p n c) g
insertions-whole (a ∷ l) U count {p} e f S t c =
    let V' = refined U a.knot a.place in
    insertions-whole l V' (suc count) (omega arith) f.2 S t (inserted U a.knot a.place p c)
    ∙ insertion-whole U a.knot a.place f.0 f.1 (held_all-span l V' (suc count) (omega arith) f.2 S) t c

-- positive weights stay positive
pub insertions-pos : (l : List Insert) (U : ℕ → ℚ) (count : ℕ) {p after s : ℕ} → length l + count ≡ after → Fits p count l → SpanOf (refined_all U l) p after s
    → (w : ℕ → ℚ) → ((i : ℕ) → i < count → q0 <q w i) → (i : ℕ) → i < after → q0 <q inserted_all U p l w i
unfolding refined_all inserted_all
insertions-pos [] U count e f S w h i g = h i (omega arith)
insertions-pos (a ∷ l) U count {p} e f S w h i g =
    let V' = refined U a.knot a.place in
    insertions-pos l V' (suc count) (omega arith) f.2 S (inserted U a.knot a.place p w)
    (weights-pos U a.knot a.place f.0 f.1 (held_all-span l V' (suc count) (omega arith) f.2 S) w h) i g

-- the exact point of a curve with positive weights is what it was
pub insertions-point : (l : List Insert) (U : ℕ → ℚ) (count : ℕ) {p after s : ℕ} → length l + count ≡ after → Fits p count l → SpanOf (refined_all U l) p after s
    → (t : ℚ) (w P : ℕ → ℚ) → ((i : ℕ) → i < count → q0 <q w i)
    → exact (refined_all U l) t s p after (inserted_all U p l w) (inserted_point_all U p l w P) ≡ exact U t (held_all l s) p count w P
unfolding refined_all held_all inserted_all inserted_point_all
insertions-point [] U count {p} {after} {s} e f S t w P h = let g : after ≡ count = omega arith in ap (λ n. exact U t s p n w P) g
insertions-point (a ∷ l) U count {p} e f S t w P h =
    let V' = refined U a.knot a.place in
    let S' = held_all-span l V' (suc count) (omega arith) f.2 S in
    insertions-point l V' (suc count) (omega arith) f.2 S t (inserted U a.knot a.place p w) (inserted_point U a.knot a.place p w P)
    (weights-pos U a.knot a.place f.0 f.1 S' w h)
    ∙ insertion-point U a.knot a.place f.0 f.1 S' t w P h

-- the exact point at t, each curve on its own span of t
module _ (l : List Insert) (U : ℕ → ℚ) (count : ℕ) {p after s s₀ : ℕ} (e : length l + count ≡ after) (f : Fits p count l) (S : SpanOf (refined_all U l) p after s)
    (S₀ : SpanOf U p count s₀) {t : ℚ} (w P : ℕ → ℚ) (pos : (i : ℕ) → i < count → q0 <q w i) where
  pub insertions-same : InSpan U s₀ t → InSpan (refined_all U l) s t
      → exact (refined_all U l) t s p after (inserted_all U p l w) (inserted_point_all U p l w P) ≡ exact U t s₀ p count w P
  insertions-same I J =
      let h : held_all l s < count = (held_all-span l U count e f S).last in
      let g : s₀ < count = S₀.last in
      insertions-point l U count e f S t w P pos
      ∙ ap (λ m. exact U t m p count w P) (one_span S₀.knots.mono (omega arith) (omega arith) (held_all-in l U count e f S J) I)

  pub insertions-same-end : InEnd U s₀ t → InEnd (refined_all U l) s t
      → exact (refined_all U l) t s p after (inserted_all U p l w) (inserted_point_all U p l w P) ≡ exact U t s₀ p count w P
  insertions-same-end I J =
      let h : held_all l s < count = (held_all-span l U count e f S).last in
      let g : s₀ < count = S₀.last in
      insertions-point l U count e f S t w P pos
      ∙ ap (λ m. exact U t m p count w P) (one_end S₀.knots.mono (omega arith) (omega arith) (held_all-end l U count e f S J) I)
