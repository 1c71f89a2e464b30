-- The source edits the controls relative to a reference o and with the weights over a scale σ. Worked over fractions it gives the same points, and weights with
-- a common factor, which no exact point has in it. Assumes nothing.
use mathlib.Core.Path.{◌≡◌, refl, sym, ◌∙◌, ap, ap₂, fun_ext}
use mathlib.Core.Logic.{◌≢◌, ◌⊎◌, inl, inr}
use mathlib.Core.List.{[], ◌∷◌}
use Prim.Native.Nat.{ℕ, zero, suc, ◌+◌, ◌≤◌, ◌<◌}
use mathlib.Core.Bool.{Bool, true, false, cond}
use native.Mathlib.Omega.{arith}
use lib.Dec.{leb}
use Rattle.exact.specs.Rational.{ℚ, ◌+q◌, ◌*q◌, ◌/q◌, negq, inv, q0, q1, ◌≤q◌, ◌<q◌, ofℕ}
use Rattle.exact.specs.Spline.{basis, whole, exact}
use Rattle.exact.specs.Boehm.{SpanOf, InSpan, InEnd, refined, share, mix, inserted, inserted_point}
use Rattle.exact.specs.Bernstein.{Segment, raised, raised_to, raised_point}
use Rattle.exact.specs.Edit.{blend_by, raise_to_by, lift_by, lower_by, insert_by, elevate_by}
use Rattle.exact.proofs.Laws.{mul-inv}
use Rattle.exact.proofs.Field.{qring, q-ring, q-combine, mul-zero, div_is, div-zero, div-eq, div-nonneg, mul-ne-0, inv-ne-0, pos-ne, neg-ne, lt→le, lt_of_le_ne, le-or-lt, ≤-antisym}
use Rattle.exact.proofs.Sum.{Σ-cong, Σ-mul}
use Rattle.exact.proofs.OneKnot.{whole-cong, weights-pos, insertion-same, insertion-same-end}
use Rattle.exact.proofs.Bernstein.{raised_to-pos}
use Rattle.exact.proofs.Elevation.{elevate-same}
use Rattle.exact.proofs.Scheme.{fractions}
use Rattle.exact.proofs.Textbook.{blend-inserted, raise_to-raised}

-- ---- a factor on all the weights

div-scale : (a X W : ℚ) → a ≢ q0 → (a *q X) /q (a *q W) ≡ X /q W
div-scale a X W n = go (le-or-lt W q0) (le-or-lt q0 W)
  where
    some : W ≢ q0 → (a *q X) /q (a *q W) ≡ X /q W
    some m = div-eq {z = X /q W} (mul-ne-0 n m) (q-combine (a *q X) (mul-inv W m) (q-ring (a ∷ X ∷ W ∷ inv W ∷ []) (search qring depth 20) tt))

    go : (W ≤q q0) ⊎ (q0 <q W) → (q0 ≤q W) ⊎ (W <q q0) → (a *q X) /q (a *q W) ≡ X /q W
    go (inr h) k = some (pos-ne h)
    go (inl h) (inr k) = some (neg-ne k)
    go (inl h) (inl k) =
        let e : W ≡ q0 = ≤-antisym h k in
        ap (λ y. (a *q X) /q y) (ap (λ y. a *q y) e ∙ mul-zero a) ∙ div-zero (a *q X) ∙ sym (ap (λ y. X /q y) e ∙ div-zero X)

whole-mul : (U : ℕ → ℚ) (t : ℚ) (s p count : ℕ) (a : ℚ) (c : ℕ → ℚ) → whole U t s p count (λ i. a *q c i) ≡ a *q whole U t s p count c
unfolding whole
whole-mul U t s p count a c = Σ-cong count (λ i l. q-ring (a ∷ c i ∷ basis U t s p i ∷ []) (search qring depth 20) tt) ∙ Σ-mul count a (λ i. basis U t s p i *q c i)

pub exact-scale : (U : ℕ → ℚ) (t : ℚ) (s p count : ℕ) (a : ℚ) (w P : ℕ → ℚ) → a ≢ q0 → exact U t s p count (λ i. a *q w i) P ≡ exact U t s p count w P
unfolding exact
exact-scale U t s p count a w P n = ap₂ ◌/q◌
    (whole-cong U t s p count (λ i l. q-ring (a ∷ w i ∷ P i ∷ []) (search qring depth 20) tt) ∙ whole-mul U t s p count a (λ i. w i *q P i))
    (whole-mul U t s p count a w) ∙ div-scale a _ _ n

pub exact-cong : (U : ℕ → ℚ) (t : ℚ) (s p count : ℕ) {w v P Q : ℕ → ℚ} → ((i : ℕ) → i < count → w i ≡ v i) → ((i : ℕ) → i < count → P i ≡ Q i)
    → exact U t s p count w P ≡ exact U t s p count v Q
unfolding exact
exact-cong U t s p count h g = ap₂ ◌/q◌ (whole-cong U t s p count (λ i l. ap₂ ◌*q◌ (h i l) (g i l))) (whole-cong U t s p count h)

-- ---- an edit that is linear in the controls

pub record Linear (L : (ℕ → ℚ) → ℚ) : Type 0 where
  pub sums : (a b : ℚ) (c d : ℕ → ℚ) → L (λ j. a *q c j +q b *q d j) ≡ a *q L c +q b *q L d

pub inserted-linear : (U : ℕ → ℚ) (x : ℚ) (k p i : ℕ) → Linear (λ c. inserted U x k p c i)
unfolding inserted
inserted-linear U x k p zero = record { sums = λ a b c d. refl }
inserted-linear U x k p (suc j) = record {
  sums = λ a b c d. q-ring (share U x k p (suc j) ∷ a ∷ b ∷ c j ∷ d j ∷ c (suc j) ∷ d (suc j) ∷ []) (search qring depth 20) tt;
}

raised-linear : (d i : ℕ) → Linear (λ c. raised d c i)
unfolding raised
raised-linear d zero = record { sums = λ a b c e. refl }
raised-linear d (suc j) = record { sums = λ a b c e. go a b c e (leb (suc j) d) }
  where
    r : ℚ
    r = ofℕ (suc j) /q ofℕ (suc d)

    go : (a b : ℚ) (c e : ℕ → ℚ) (y : Bool) → cond y (mix r (a *q c (suc j) +q b *q e (suc j)) (a *q c j +q b *q e j)) (a *q c d +q b *q e d)
        ≡ a *q cond y (mix r (c (suc j)) (c j)) (c d) +q b *q cond y (mix r (e (suc j)) (e j)) (e d)
    go a b c e true = q-ring (r ∷ a ∷ b ∷ c j ∷ e j ∷ c (suc j) ∷ e (suc j) ∷ []) (search qring depth 20) tt
    go a b c e false = refl

pub raised_to-linear : (d n i : ℕ) → Linear (λ c. raised_to d n c i)
unfolding raised_to
raised_to-linear d zero i = record { sums = λ a b c e. refl }
raised_to-linear d (suc n) i = record {
  sums = λ a b c e. ap (λ h. raised (d + n) h i) (fun_ext (λ m. (raised_to-linear d n m).sums a b c e)) ∙ (raised-linear (d + n) i).sums a b (raised_to d n c) (raised_to d n e);
}

-- so it may be done relative to any o
lowered : {L : (ℕ → ℚ) → ℚ} → Linear L → (o : ℚ) (v P : ℕ → ℚ) → L v ≢ q0
    → lower_by fractions o (L (λ j. lift_by fractions o (P j) (v j))) (L v) ≡ L (λ j. v j *q P j) /q L v
unfolding lower_by lift_by
lowered {L} N o v P m =
    let X : ℚ = L (λ j. v j *q P j) in
    ap (λ y. o +q y /q L v) (ap L (fun_ext (λ j. q-ring (P j ∷ o ∷ v j ∷ []) (search qring depth 20) tt)) ∙ N.sums q1 (negq o) (λ j. v j *q P j) v)
    ∙ q-combine (negq o) (mul-inv (L v) m) (q-ring (o ∷ X ∷ L v ∷ inv (L v) ∷ []) (search qring depth 20) tt)

div-pos : {x y : ℚ} → q0 <q x → q0 <q y → q0 <q x /q y
div-pos {x} {y} h k = lt_of_le_ne (div-nonneg (lt→le h) k) (λ e. mul-ne-0 (pos-ne h) (inv-ne-0 (pos-ne k)) (sym (div_is x y) ∙ sym e))

-- the weights over a scale
abbrev pub over : ℚ → (ℕ → ℚ) → ℕ → ℚ
over σ w i = w i /q σ

exact-over : (U : ℕ → ℚ) (t : ℚ) (s p count : ℕ) (w P : ℕ → ℚ) {σ : ℚ} → q0 <q σ → exact U t s p count (over σ w) P ≡ exact U t s p count w P
exact-over U t s p count w P {σ} h =
    exact-cong U t s p count (λ i l. q-ring (w i ∷ inv σ ∷ []) (search qring depth 20) tt) (λ i l. refl) ∙ exact-scale U t s p count (inv σ) w P (inv-ne-0 (pos-ne h))

-- ---- one knot more, as the source works it out

-- m knots up to place k are x; s is a span of the new knots
module _ (U : ℕ → ℚ) (x : ℚ) (k p m : ℕ) (few : m ≤ p) (from : p ≤ k) (full : (i : ℕ) → k < i + m → i ≤ k → U i ≡ x) where
  pub insert-point : (o : ℚ) (v P : ℕ → ℚ) (i : ℕ) → inserted U x k p v i ≢ q0 → insert_by fractions p k m x U o v P i ≡ inserted_point U x k p v P i
  unfolding insert_by inserted_point
  insert-point o v P i n =
      ap₂ (λ y z. lower_by fractions o y z) (blend-inserted U x k p m few from full (λ j. lift_by fractions o (P j) (v j)) i) (blend-inserted U x k p m few from full v i)
      ∙ lowered (inserted-linear U x k p i) o v P n

  module _ {count s s₀ : ℕ} (place : k < count) (S : SpanOf (refined U x k) p (suc count) s) (S₀ : SpanOf U p count s₀) (o : ℚ) {σ : ℚ} (h : q0 <q σ) (t : ℚ) (w P : ℕ → ℚ)
      (pos : (i : ℕ) → i < count → q0 <q w i) where
    over-pos : (i : ℕ) → i < count → q0 <q over σ w i
    over-pos i l = div-pos (pos i l) h

    worked : exact (refined U x k) t s p (suc count) (blend_by fractions p k m x U (over σ w)) (insert_by fractions p k m x U o (over σ w) P)
        ≡ exact (refined U x k) t s p (suc count) (inserted U x k p (over σ w)) (inserted_point U x k p (over σ w) P)
    worked = exact-cong (refined U x k) t s p (suc count) (λ i l. blend-inserted U x k p m few from full (over σ w) i)
        (λ i l. insert-point o (over σ w) P i (pos-ne (weights-pos U x k from place S (over σ w) over-pos i l)))

    -- the exact point at t, each curve on its own span of t
    pub insert-same : InSpan U s₀ t → InSpan (refined U x k) s t
        → exact (refined U x k) t s p (suc count) (blend_by fractions p k m x U (over σ w)) (insert_by fractions p k m x U o (over σ w) P) ≡ exact U t s₀ p count w P
    insert-same I J = worked ∙ insertion-same U x k from place S S₀ (over σ w) P over-pos I J ∙ exact-over U t s₀ p count w P h

    pub insert-same-end : InEnd U s₀ t → InEnd (refined U x k) s t
        → exact (refined U x k) t s p (suc count) (blend_by fractions p k m x U (over σ w)) (insert_by fractions p k m x U o (over σ w) P) ≡ exact U t s₀ p count w P
    insert-same-end I J = worked ∙ insertion-same-end U x k from place S S₀ (over σ w) P over-pos I J ∙ exact-over U t s₀ p count w P h

-- ---- degrees up, as the source works them out

pub elevate-point : (d n : ℕ) (o : ℚ) (v P : ℕ → ℚ) (i : ℕ) → raised_to d n v i ≢ q0 → elevate_by fractions d n o v P i ≡ raised_point d n v P i
unfolding elevate_by raised_point
elevate-point d n o v P i h =
    ap₂ (λ y z. lower_by fractions o y z) (raise_to-raised d n (λ j. lift_by fractions o (P j) (v j)) i) (raise_to-raised d n v i) ∙ lowered (raised_to-linear d n i) o v P h

-- the segment from a to z is on span s of the knots U, and n degrees up on span s' of W
module _ {U W : ℕ → ℚ} {a z : ℚ} {p q b b' : ℕ} (S : Segment U a z p b) (S' : Segment W a z q b') (lt : a <q z) (n : ℕ) (up : p + n ≡ q)
    {s s' count count' : ℕ} (e : b + p ≡ s) (e' : b' + q ≡ s') (l : s < count) (l' : s' < count') where
  pub elevate-source : (o : ℚ) {σ : ℚ} → q0 <q σ → (t : ℚ) (w P v Q : ℕ → ℚ) → ((i : ℕ) → i ≤ p → q0 <q w (b + i))
      → ((i : ℕ) → i ≤ q → v (b' + i) ≡ raise_to_by fractions p n (λ j. w (b + j) /q σ) i)
      → ((i : ℕ) → i ≤ q → Q (b' + i) ≡ elevate_by fractions p n o (λ j. w (b + j) /q σ) (λ j. P (b + j)) i)
      → exact W t s' q count' v Q ≡ exact U t s p count w P
  elevate-source o {σ} h t w P v Q pos f g =
      let u : ℕ → ℚ = λ j. w (b + j) /q σ in
      let u-pos : (j : ℕ) → j ≤ p → q0 <q u j = λ j r. div-pos (pos j r) h in
      elevate-same S S' lt n up e e' l l' t (over σ w) P v Q u-pos (λ i m. f i m ∙ raise_to-raised p n u i)
      (λ i m. g i m ∙ elevate-point p n o u (λ j. P (b + j)) i (pos-ne (raised_to-pos p n u u-pos i (omega arith))))
      ∙ exact-over U t s p count w P h
