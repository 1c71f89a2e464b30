-- Degree elevation of a whole curve: on each span between full knots, raised controls give the exact points there were. Assumes nothing.
-- U is the extracted knots of degree p, and W those of degree p + n; s and s' are a span of each, b and b' its first active control; it goes from a to z.
use mathlib.Core.Path.{◌≡◌, sym, ◌∙◌, ap, ap₂, subst}
use mathlib.Core.List.{List}
use mathlib.Core.Logic.{⊎_elim}
use Prim.Native.Nat.{ℕ, suc, ◌+◌, ◌≤◌, ◌<◌}
use native.Mathlib.Nat.{zero-add}
use native.Mathlib.Omega.{arith}
use lib.ListN.{length}
use Rattle.exact.specs.Rational.{ℚ, ◌-q◌, ◌*q◌, ◌/q◌, q0, ◌≤q◌, ◌<q◌}
use Rattle.exact.specs.Spline.{whole, exact}
use Rattle.exact.specs.Boehm.{SpanOf, InSpan, InEnd, Insert, Fits, refined_all, inserted_all, inserted_point_all}
use Rattle.exact.specs.Bernstein.{ends, Segment, raised_to, raised_point}
use Rattle.exact.proofs.Refined.{split}
use Rattle.exact.proofs.Local.{Near, whole-local}
use Rattle.exact.proofs.SeveralKnots.{insertions-pos, insertions-same, insertions-same-end}
use Rattle.exact.proofs.Bernstein.{casteljau, casteljau-cong, casteljau-raised_to, ends-segment, ends-whole, raised-back}

-- a span of a curve whose knots are those of a segment is that segment
module _ {U : ℕ → ℚ} {a z : ℚ} {p b : ℕ} (S : Segment U a z p b) where
  near-ends : Near U (ends a z p) p b 0
  near-ends = let E = ends-segment a z p in record {
    alike = λ i g h. ⊎_elim (λ (l : i ≤ p). S.left i g l ∙ sym (E.left i g l)) (λ (l : p < i). S.right i l h ∙ sym (E.right i l h)) (split i p);
  }

  module _ {s count : ℕ} (e : b + p ≡ s) (l : s < count) (t : ℚ) (c : ℕ → ℚ) where
    pub segment-whole : whole U t s p count c ≡ whole (ends a z p) t p p (suc p) (λ i. c (b + i))
    segment-whole = whole-local near-ends e (zero-add p) l (omega arith) t c (λ i. c (b + i)) (λ i h. ap (λ m. c (b + m)) (sym (zero-add i)))

    pub segment-casteljau : a <q z → whole U t s p count c ≡ casteljau ((t -q a) /q (z -q a)) p (λ i. c (b + i))
    segment-casteljau lt = segment-whole ∙ ends-whole a z p lt t (λ i. c (b + i))

module _ {U W : ℕ → ℚ} {a z : ℚ} {p q b b' : ℕ} (S : Segment U a z p b) (S' : Segment W a z q b') (lt : a <q z) (n : ℕ) (up : p + n ≡ q)
    {s s' count count' : ℕ} (e : b + p ≡ s) (e' : b' + q ≡ s') (l : s < count) (l' : s' < count') (t : ℚ) where
  -- the sum
  pub elevate-whole : (c d : ℕ → ℚ) → ((i : ℕ) → i ≤ q → d (b' + i) ≡ raised_to p n (λ j. c (b + j)) i) → whole W t s' q count' d ≡ whole U t s p count c
  elevate-whole c d h = let u = (t -q a) /q (z -q a) in
      segment-casteljau S' e' l' t d lt ∙ casteljau-cong u q h ∙ ap (λ k. casteljau u k (raised_to p n (λ j. c (b + j)))) (sym up)
      ∙ casteljau-raised_to u p n (λ j. c (b + j)) ∙ sym (segment-casteljau S e l t c lt)

  -- the exact point
  pub elevate-same : (w P v Q : ℕ → ℚ) → ((i : ℕ) → i ≤ p → q0 <q w (b + i))
      → ((i : ℕ) → i ≤ q → v (b' + i) ≡ raised_to p n (λ j. w (b + j)) i)
      → ((i : ℕ) → i ≤ q → Q (b' + i) ≡ raised_point p n (λ j. w (b + j)) (λ j. P (b + j)) i)
      → exact W t s' q count' v Q ≡ exact U t s p count w P
  unfolding exact
  elevate-same w P v Q pos h g = ap₂ ◌/q◌
      (elevate-whole (λ i. w i *q P i) (λ i. v i *q Q i) (λ i k. ap₂ ◌*q◌ (h i k) (g i k) ∙ raised-back p n (λ j. w (b + j)) (λ j. P (b + j)) pos i (omega arith)))
      (elevate-whole w v h)

-- ---- from the original curve: the insertions l make its knots full, and every span is raised

-- a segment's own knots
module _ {U : ℕ → ℚ} {a z : ℚ} {p b : ℕ} (G : Segment U a z p b) (some : 0 < p) {s : ℕ} (e : b + p ≡ s) where
  at_left : U s ≡ a
  at_left = ap U (sym e) ∙ G.left p some (omega arith)

  at_right : U (suc s) ≡ z
  at_right = let x : suc s ≡ b + suc p = omega arith in ap U x ∙ G.right (suc p) (omega arith) (omega arith)

  segment-gap : U s <q U (suc s) → a <q z
  segment-gap h = subst (λ y. y <q z) at_left (subst (λ y. U s <q y) at_right h)

-- t is in the span of one where it is in that of the other
module _ {U W : ℕ → ℚ} {a z : ℚ} {p q b b' s s' : ℕ} (G : Segment U a z p b) (G' : Segment W a z q b') (some : 0 < p) (some' : 0 < q) (e : b + p ≡ s) (e' : b' + q ≡ s') {t : ℚ} where
  segment-in : InSpan W s' t → InSpan U s t
  segment-in I = record {
    from = subst (λ y. y ≤q t) (at_left G' some' e' ∙ sym (at_left G some e)) I.from;
    to = subst (λ y. t <q y) (at_right G' some' e' ∙ sym (at_right G some e)) I.to;
  }

  segment-end : InEnd W s' t → InEnd U s t
  segment-end I = record {
    from = subst (λ y. y <q t) (at_left G' some' e' ∙ sym (at_left G some e)) I.from;
    to = subst (λ y. t ≤q y) (at_right G' some' e' ∙ sym (at_right G some e)) I.to;
  }

module _ (l : List Insert) (U : ℕ → ℚ) (count : ℕ) {p after s s₀ : ℕ} (k : length l + count ≡ after) (fits : Fits p count l) (S : SpanOf (refined_all U l) p after s)
    (S₀ : SpanOf U p count s₀) (t : ℚ) (w P : ℕ → ℚ) (pos : (i : ℕ) → i < count → q0 <q w i)
    (some : 0 < p) {a z : ℚ} {b : ℕ} (G : Segment (refined_all U l) a z p b) (e : b + p ≡ s)
    {W : ℕ → ℚ} {q b' s' count' : ℕ} (n : ℕ) (up : p + n ≡ q) (G' : Segment W a z q b') (e' : b' + q ≡ s') (last : s' < count') (v Q : ℕ → ℚ)
    (weights : (i : ℕ) → i ≤ q → v (b' + i) ≡ raised_to p n (λ j. inserted_all U p l w (b + j)) i)
    (points : (i : ℕ) → i ≤ q → Q (b' + i) ≡ raised_point p n (λ j. inserted_all U p l w (b + j)) (λ j. inserted_point_all U p l w P (b + j)) i) where
  from-extracted : exact W t s' q count' v Q ≡ exact (refined_all U l) t s p after (inserted_all U p l w) (inserted_point_all U p l w P)
  from-extracted =
      let h : s < after = S.last in
      elevate-same G G' (segment-gap G some e S.knots.gap) n up e e' h last t (inserted_all U p l w) (inserted_point_all U p l w P) v Q
      (λ i g. insertions-pos l U count k fits S w pos (b + i) (omega arith)) weights points

  -- the exact point at t, each curve on its own span of t
  pub elevation-same : InSpan U s₀ t → InSpan W s' t → exact W t s' q count' v Q ≡ exact U t s₀ p count w P
  elevation-same I J = from-extracted ∙ insertions-same l U count k fits S S₀ w P pos I (segment-in G G' some (omega arith) e e' J)

  pub elevation-same-end : InEnd U s₀ t → InEnd W s' t → exact W t s' q count' v Q ≡ exact U t s₀ p count w P
  elevation-same-end I J = from-extracted ∙ insertions-same-end l U count k fits S S₀ w P pos I (segment-end G G' some (omega arith) e e' J)
