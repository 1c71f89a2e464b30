-- One knot inserted: the sum over all the points, and the exact point of a rational curve, are what they were. Assumes nothing.
-- U is the knots, x the new knot after place k; p the degree; count the number of points; s a span of the refined knots.
use mathlib.Core.Path.{◌≡◌, sym, ◌∙◌, ap, ap₂, subst}
use mathlib.Core.Logic.{◌≢◌, ⊎_elim}
use mathlib.Core.List.{[], ◌∷◌}
use Prim.Native.Nat.{ℕ, suc, ◌+◌, ◌-◌, ◌≤◌, ◌<◌}
use native.Mathlib.Nat.{suc-add}
use native.Mathlib.Omega.{arith}
use Rattle.exact.specs.Rational.{ℚ, ◌*q◌, ◌/q◌, inv, q0, ◌≤q◌, ◌<q◌}
use Rattle.exact.specs.Spline.{basis, Knots, whole, exact}
use Rattle.exact.specs.Boehm.{SpanOf, InSpan, InEnd, refined, held, inserted, inserted_point}
use Rattle.exact.proofs.Laws.{mul-inv}
use Rattle.exact.proofs.Field.{qring, q-ring, q-combine, ≤_trans, ≤-<-trans, <-≤-trans, pos-ne}
use Rattle.exact.proofs.Sum.{Σ-cong}
use Rattle.exact.proofs.Curve.{whole-curve}
use Rattle.exact.proofs.Refined.{split, refined-is, OldSpan, held-is, old-knots, held_low, held_high, new-order, one_span, one_end, refined-span}
use Rattle.exact.proofs.Shares.{inserted-pos}
use Rattle.exact.proofs.Boehm.{boehm}

pub whole-cong : (U : ℕ → ℚ) (t : ℚ) (s p count : ℕ) {c d : ℕ → ℚ} → ((i : ℕ) → i < count → c i ≡ d i) → whole U t s p count c ≡ whole U t s p count d
unfolding whole
whole-cong U t s p count h = Σ-cong count (λ i l. ap (λ y. basis U t s p i *q y) (h i l))

-- the span that holds one of the points' spans is one of the points' spans
pub held-from : (p k s : ℕ) → p ≤ k → p ≤ s → p ≤ held k s
held-from p k s h g = let H = held-is k s in ⊎_elim
    (λ (a : s ≤ k). let e : held k s ≡ s = H.left a in omega arith)
    (λ (a : k < s). let e : suc (held k s) ≡ s = H.right a in omega arith) (split s k)

pub held_below : (k s count : ℕ) → k < count → s ≤ count → held k s < count
held_below k s count h g = let H = held-is k s in ⊎_elim
    (λ (a : s ≤ k). let e : held k s ≡ s = H.left a in omega arith)
    (λ (a : k < s). let e : suc (held k s) ≡ s = H.right a in omega arith) (split s k)

pub put_back : (w X : ℚ) → w ≢ q0 → w *q (X /q w) ≡ X
put_back w X h = q-combine X (mul-inv w h) (q-ring (w ∷ X ∷ inv w ∷ []) (search qring depth 20) tt)

module _ (U : ℕ → ℚ) (x : ℚ) (k : ℕ) {p count s : ℕ} (from : p ≤ k) (place : k < count) (S : SpanOf (refined U x k) p (suc count) s) where
  in_order : Knots (refined U x k) (suc (count + suc p)) s
  in_order = subst (λ n. Knots (refined U x k) n s) (suc-add count (suc p)) S.knots

  pub held-span : SpanOf U p count (held k s)
  held-span =
      let f : p ≤ s = S.first in
      let l : s < suc count = S.last in
      let h : held k s < count = held_below k s count place (omega arith) in
      record { first = held-from p k s from f; last = h; knots = old-knots (refined-is U x k) in_order (held-is k s) (omega arith) }

  -- Boehm: on every nonempty span of the refined knots the sum is what it was
  pub insertion-whole : (t : ℚ) (c : ℕ → ℚ) → whole (refined U x k) t s p (suc count) (inserted U x k p c) ≡ whole U t (held k s) p count c
  insertion-whole t c =
      let f : p ≤ s = S.first in
      let l : s < suc count = S.last in
      let f₀ : p ≤ held k s = held-span.first in
      let l₀ : held k s < count = held-span.last in
      let e : s - p + p ≡ s = omega arith in
      let e₀ : held k s - p + p ≡ held k s = omega arith in
      whole-curve in_order p (s - p) (suc count) e l (omega arith) t (inserted U x k p c)
      ∙ boehm (refined-is U x k) in_order (held-is k s) (omega arith) t p (s - p) (held k s - p) c e e₀ (omega arith) (omega arith) from
      ∙ sym (whole-curve held-span.knots p (held k s - p) count e₀ l₀ (omega arith) t c)

  -- ---- with weights

  -- the exact point is what it was, where no new weight is 0
  pub insertion-exact : (t : ℚ) (w P : ℕ → ℚ) → ((i : ℕ) → i < suc count → inserted U x k p w i ≢ q0)
      → exact (refined U x k) t s p (suc count) (inserted U x k p w) (inserted_point U x k p w P) ≡ exact U t (held k s) p count w P
  unfolding exact inserted_point
  insertion-exact t w P n = ap₂ ◌/q◌
      (whole-cong (refined U x k) t s p (suc count) (λ i l. put_back (inserted U x k p w i) (inserted U x k p (λ j. w j *q P j) i) (n i l))
      ∙ insertion-whole t (λ j. w j *q P j))
      (insertion-whole t w)

  -- positive weights stay positive
  pub weights-pos : (w : ℕ → ℚ) → ((i : ℕ) → i < count → q0 <q w i) → (i : ℕ) → i < suc count → q0 <q inserted U x k p w i
  weights-pos w h i l = inserted-pos (refined-is U x k) in_order.mono p (omega arith) w count place h i l

  -- and so the point is what it was
  pub insertion-point : (t : ℚ) (w P : ℕ → ℚ) → ((i : ℕ) → i < count → q0 <q w i)
      → exact (refined U x k) t s p (suc count) (inserted U x k p w) (inserted_point U x k p w P) ≡ exact U t (held k s) p count w P
  insertion-point t w P h = insertion-exact t w P (λ i l. pos-ne (weights-pos w h i l))

  -- ---- at one parameter

  pub held_in : {t : ℚ} → InSpan (refined U x k) s t → InSpan U (held k s) t
  held_in I = let h : held k s < count = held-span.last in record {
    from = ≤_trans (held_low (refined-is U x k) in_order (held-is k s) (omega arith)) I.from;
    to = <-≤-trans I.to (held_high (refined-is U x k) in_order (held-is k s) (omega arith));
  }

  pub held-end : {t : ℚ} → InEnd (refined U x k) s t → InEnd U (held k s) t
  held-end I = let h : held k s < count = held-span.last in record {
    from = ≤-<-trans (held_low (refined-is U x k) in_order (held-is k s) (omega arith)) I.from;
    to = ≤_trans I.to (held_high (refined-is U x k) in_order (held-is k s) (omega arith));
  }

  module _ {s₀ : ℕ} (S₀ : SpanOf U p count s₀) {t : ℚ} (w P : ℕ → ℚ) (pos : (i : ℕ) → i < count → q0 <q w i) where
    -- the exact point at t, each curve on its own span of t
    pub insertion-same : InSpan U s₀ t → InSpan (refined U x k) s t
        → exact (refined U x k) t s p (suc count) (inserted U x k p w) (inserted_point U x k p w P) ≡ exact U t s₀ p count w P
    insertion-same I J =
        let h : held k s < count = held-span.last in
        let l : s₀ < count = S₀.last in
        insertion-point t w P pos ∙ ap (λ m. exact U t m p count w P) (one_span S₀.knots.mono (omega arith) (omega arith) (held_in J) I)

    pub insertion-same-end : InEnd U s₀ t → InEnd (refined U x k) s t
        → exact (refined U x k) t s p (suc count) (inserted U x k p w) (inserted_point U x k p w P) ≡ exact U t s₀ p count w P
    insertion-same-end I J =
        let h : held k s < count = held-span.last in
        let l : s₀ < count = S₀.last in
        insertion-point t w P pos ∙ ap (λ m. exact U t m p count w P) (one_end S₀.knots.mono (omega arith) (omega arith) (held-end J) I)

-- a parameter of a span of the old curve is in a span of the new one
pub refined-in : (U : ℕ → ℚ) (x : ℚ) (k : ℕ) {p count s₀ : ℕ} → p ≤ k → k < count → U k ≤q x → x ≤q U (suc k) → SpanOf U p count s₀ → {t : ℚ} → InSpan U s₀ t
    → (s : ℕ) × SpanOf (refined U x k) p (suc count) s × InSpan (refined U x k) s t
refined-in U x k {p} {count} {s₀} from place low high S I =
    let R = refined-is U x k in
    let o = refined-span R I in
    let H : OldSpan k o.0 s₀ = o.1 in
    let J : InSpan (refined U x k) o.0 _ = o.2 in
    let f : p ≤ s₀ = S.first in
    let l : s₀ < count = S.last in
    let r : (p ≤ o.0) × (o.0 < suc count) = ⊎_elim
    (λ (h : o.0 ≤ k). let e : s₀ ≡ o.0 = H.left h in (omega arith, omega arith))
    (λ (h : k < o.0). let e : suc s₀ ≡ o.0 = H.right h in (omega arith, omega arith)) (split o.0 k) in (
      o.0,
      record {
        first = r.0;
        last = r.1;
        knots = record {
          mono = subst (λ n. (i j : ℕ) → i ≤ j → j < n → refined U x k i ≤q refined U x k j) (sym (suc-add count (suc p)))
              (new-order R (count + suc p) (omega arith) S.knots.mono low high);
          gap = ≤-<-trans J.from J.to;
        };
      },
      J,
    )
