-- A part of a curve, cut out of it from control f on, is the curve there; so a trimmed curve, cut out after insertions, is the curve it was trimmed from. Assumes nothing.
-- m is the number of points that are kept, s a span of the part, and f + s the same span of the curve.
use mathlib.Core.Path.{◌≡◌, ◌∙◌, ap, subst}
use mathlib.Core.List.{List}
use Prim.Native.Nat.{ℕ, suc, ◌+◌, ◌-◌, ◌≤◌, ◌<◌}
use native.Mathlib.Nat.{add-suc}
use native.Mathlib.Omega.{arith}
use lib.ListN.{length}
use Rattle.exact.specs.Rational.{ℚ, q0, ◌≤q◌, ◌<q◌}
use Rattle.exact.specs.Spline.{whole, exact}
use Rattle.exact.specs.Boehm.{SpanOf, InSpan, InEnd, Insert, Fits, refined_all, inserted_all, inserted_point_all, cut}
use Rattle.exact.proofs.Local.{Near, whole-local, exact-local}
use Rattle.exact.proofs.SeveralKnots.{insertions-same, insertions-same-end}

module _ (f : ℕ) (U : ℕ → ℚ) where
  moved : (b i : ℕ) (c : ℕ → ℚ) → cut f c (b + i) ≡ c (f + b + i)
  moved b i c = let x : f + (b + i) ≡ f + b + i = omega arith in ap c x

  near-cut : (p b : ℕ) → Near (cut f U) U p b (f + b)
  near-cut p b = record { alike = λ i g h. moved b i U }

  pub cut_in : (s : ℕ) {t : ℚ} → InSpan (cut f U) s t → InSpan U (f + s) t
  cut_in s {t} I = record { from = I.from; to = subst (λ i. t <q U i) (add-suc f s) I.to }

  pub cut-end : (s : ℕ) {t : ℚ} → InEnd (cut f U) s t → InEnd U (f + s) t
  cut-end s {t} I = record { from = I.from; to = subst (λ i. t ≤q U i) (add-suc f s) I.to }

  module _ {p m count s : ℕ} (part : f + m ≤ count) (S : SpanOf (cut f U) p m s) where
    -- the sum, and the exact point, of the part
    pub cut-whole : (t : ℚ) (c : ℕ → ℚ) → whole (cut f U) t s p m (cut f c) ≡ whole U t (f + s) p count c
    cut-whole t c =
        let h : p ≤ s = S.first in
        let l : s < m = S.last in
        whole-local (near-cut p (s - p)) (omega arith) (omega arith) l (omega arith) t (cut f c) c (λ i g. moved (s - p) i c)

    pub cut-exact : (t : ℚ) (w P : ℕ → ℚ) → exact (cut f U) t s p m (cut f w) (cut f P) ≡ exact U t (f + s) p count w P
    cut-exact t w P =
        let h : p ≤ s = S.first in
        let l : s < m = S.last in
        exact-local (near-cut p (s - p)) (omega arith) (omega arith) l (omega arith) t (cut f w) (cut f P) w P
        (λ i g. moved (s - p) i w) (λ i g. moved (s - p) i P)

    -- a nonempty span of the part is one of the curve, whose knots are in order
    pub cut-span : ((i j : ℕ) → i ≤ j → j < count + suc p → U i ≤q U j) → SpanOf U p count (f + s)
    cut-span mono =
        let h : p ≤ s = S.first in
        let l : s < m = S.last in
        record { first = omega arith; last = omega arith; knots = record { mono = mono; gap = subst (λ i. U (f + s) <q U i) (add-suc f s) S.knots.gap } }

-- a curve trimmed by the insertions l and a cut
module _ (l : List Insert) (U : ℕ → ℚ) (count : ℕ) {p after : ℕ} (e : length l + count ≡ after) (fits : Fits p count l)
    (order : (i j : ℕ) → i ≤ j → j < after + suc p → refined_all U l i ≤q refined_all U l j)
    (f : ℕ) {m s : ℕ} (part : f + m ≤ after) (S : SpanOf (cut f (refined_all U l)) p m s)
    {s₀ : ℕ} (S₀ : SpanOf U p count s₀) {t : ℚ} (w P : ℕ → ℚ) (pos : (i : ℕ) → i < count → q0 <q w i) where
  -- the exact point at t, each curve on its own span of t
  pub trim_same : InSpan U s₀ t → InSpan (cut f (refined_all U l)) s t
      → exact (cut f (refined_all U l)) t s p m (cut f (inserted_all U p l w)) (cut f (inserted_point_all U p l w P)) ≡ exact U t s₀ p count w P
  trim_same I J =
      cut-exact f (refined_all U l) part S t (inserted_all U p l w) (inserted_point_all U p l w P)
      ∙ insertions-same l U count e fits (cut-span f (refined_all U l) part S order) S₀ w P pos I (cut_in f (refined_all U l) s J)

  -- at the right end both are on the span that ends there: the limit from inside
  pub trim-same-end : InEnd U s₀ t → InEnd (cut f (refined_all U l)) s t
      → exact (cut f (refined_all U l)) t s p m (cut f (inserted_all U p l w)) (cut f (inserted_point_all U p l w P)) ≡ exact U t s₀ p count w P
  trim-same-end I J =
      cut-exact f (refined_all U l) part S t (inserted_all U p l w) (inserted_point_all U p l w P)
      ∙ insertions-same-end l U count e fits (cut-span f (refined_all U l) part S order) S₀ w P pos I (cut-end f (refined_all U l) s J)
