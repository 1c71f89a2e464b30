-- The knots with one knot more: their order, and the old span that holds each of their spans. Assumes nothing.
-- U is the knots, W the knots with x after place k; s a span of W, and s₀ the span of U that holds it.
use mathlib.Core.Path.{◌≡◌, refl, sym, ◌∙◌, ap, subst}
use mathlib.Core.Bool.{Bool, true, false, cond, not}
use mathlib.Core.Logic.{◌⊎◌, inl, inr, ⊎_elim}
use Prim.Native.Nat.{ℕ, zero, suc, ◌-◌, ◌≤◌, ◌<◌}
use native.Mathlib.Nat.{eq-or-lt_of_le}
use native.Mathlib.Omega.{arith}
use lib.Dec.{T, leb, leb→le, le→leb, nleb→lt, eqb, eqb→eq, eqb_refl}
use Rattle.exact.specs.Rational.{ℚ, ◌≤q◌, ◌<q◌}
use Rattle.exact.specs.Spline.{Knots}
use Rattle.exact.specs.Boehm.{refined, held, InSpan, InEnd}
use Rattle.exact.proofs.Field.{≤-eq, ≤_trans, ≤-<-trans, <-≤-trans, not-both, le-or-lt}
use Rattle.exact.proofs.DeBoor.{mono-of-steps}
use Rattle.exact.proofs.Source.{cond_yes, cond_no}

pub split : (a b : ℕ) → (a ≤ b) ⊎ (b < a)
split a b = go (leb a b) (leb→le a b) (nleb→lt a b)
  where
    go : (u : Bool) → (T u → a ≤ b) → (T (not u) → b < a) → (a ≤ b) ⊎ (b < a)
    go true f g = inl (f tt)
    go false f g = inr (g tt)

-- what the theorems use of the refined knots
pub record Refined (U W : ℕ → ℚ) (k : ℕ) (x : ℚ) : Type 0 where
  pub before : (i : ℕ) → i ≤ k → W i ≡ U i
  pub new : W (suc k) ≡ x
  pub after : (i : ℕ) → k < i → W (suc i) ≡ U i

pub refined-is : (U : ℕ → ℚ) (x : ℚ) (k : ℕ) → Refined U (refined U x k) k x
unfolding refined
refined-is U x k = record {
  before = λ i h. cond_yes _ _ (leb i k) (le→leb i k h);
  new = cond_no _ _ (leb (suc k) k) (λ z. let y : suc k ≤ k = leb→le (suc k) k z in omega arith) ∙ cond_yes _ _ (eqb (suc k) (suc k)) (eqb_refl (suc k));
  after = λ i h. let e : suc i - 1 ≡ i = omega arith in cond_no _ _ (leb (suc i) k) (λ z. let y : suc i ≤ k = leb→le (suc i) k z in omega arith)
      ∙ cond_no _ _ (eqb (suc i) (suc k)) (λ z. let y : suc i ≡ suc k = eqb→eq (suc i) (suc k) z in omega arith) ∙ ap U e;
}

-- span s of the refined knots lies in the old span s₀
pub record OldSpan (k s s₀ : ℕ) : Type 0 where
  pub left : s ≤ k → s₀ ≡ s
  pub right : k < s → suc s₀ ≡ s

pub held-is : (k s : ℕ) → OldSpan k s (held k s)
unfolding held
held-is k s = go (leb s k) (leb→le s k) (nleb→lt s k)
  where
    go : (b : Bool) → (T b → s ≤ k) → (T (not b) → k < s) → OldSpan k s (cond b s (s - 1))
    go true f g = let y : s ≤ k = f tt in record { left = λ h. refl; right = λ h. absurd (omega arith) }
    go false f g = let y : k < s = g tt in record { left = λ h. absurd (omega arith); right = λ h. omega arith }

-- the old knots are in order where the refined ones are, and the span that holds a nonempty span is not empty
module _ {U W : ℕ → ℚ} {k : ℕ} {x : ℚ} (R : Refined U W k x) {n s s₀ : ℕ} (K : Knots W (suc n) s) (S : OldSpan k s s₀) (in-range : suc s₀ < n) where
  left-gap : s ≤ k → U s <q U (suc s)
  left-gap sk = let e : s₀ ≡ s = S.left sk in subst (λ y. y <q U (suc s)) (R.before s sk) (⊎_elim
      (λ (h : suc s ≤ k). subst (λ y. W s <q y) (R.before (suc s) h) K.gap)
      (λ (h : k < suc s). subst (λ y. W s <q y) (R.after (suc s) h) (<-≤-trans K.gap (K.mono (suc s) (suc (suc s)) (omega arith) (omega arith))))
      (split (suc s) k))

  right-gap : k < s → suc s₀ ≡ s → U s₀ <q U (suc s₀)
  right-gap ks e =
      let y : W (suc (suc s₀)) ≡ U (suc s₀) = R.after (suc s₀) (omega arith) in
      let g : W s <q W (suc s) = K.gap in
      let g' : W (suc s₀) <q W (suc (suc s₀)) = subst (λ m. W m <q W (suc m)) (sym e) g in
      subst (λ z. U s₀ <q z) y (⊎_elim
      (λ (h : s₀ ≤ k). subst (λ z. z <q W (suc (suc s₀))) (R.before s₀ h) (≤-<-trans (K.mono s₀ (suc s₀) (omega arith) (omega arith)) g'))
      (λ (h : k < s₀). subst (λ z. z <q W (suc (suc s₀))) (R.after s₀ h) g') (split s₀ k))

  pub old-knots : Knots U n s₀
  old-knots = record {
    mono = λ i j h l. ⊎_elim
        (λ (jk : j ≤ k). subst (λ y. U i ≤q y) (R.before j jk) (subst (λ y. y ≤q W j) (R.before i (omega arith)) (K.mono i j h (omega arith))))
        (λ (kj : k < j). ⊎_elim
        (λ (ik : i ≤ k). subst (λ y. U i ≤q y) (R.after j kj) (subst (λ y. y ≤q W (suc j)) (R.before i ik) (K.mono i (suc j) (omega arith) (omega arith))))
        (λ (ki : k < i). subst (λ y. U i ≤q y) (R.after j kj) (subst (λ y. y ≤q W (suc j)) (R.after i ki) (K.mono (suc i) (suc j) (omega arith) (omega arith))))
        (split i k)) (split j k);
    gap = ⊎_elim
        (λ (sk : s ≤ k). let e : s₀ ≡ s = S.left sk in subst (λ m. U m <q U (suc m)) (sym e) (left-gap sk))
        (λ (ks : k < s). right-gap ks (S.right ks)) (split s k);
  }

  -- the old span does hold the refined one
  pub held_low : U s₀ ≤q W s
  held_low = ⊎_elim
      (λ (h : s ≤ k). let e : s₀ ≡ s = S.left h in subst (λ m. U m ≤q W s) (sym e) (≤-eq (sym (R.before s h))))
      (λ (h : k < s). let e : suc s₀ ≡ s = S.right h in subst (λ m. U s₀ ≤q W m) e (⊎_elim
      (λ (g : s₀ ≤ k). subst (λ y. y ≤q W (suc s₀)) (R.before s₀ g) (K.mono s₀ (suc s₀) (omega arith) (omega arith)))
      (λ (g : k < s₀). ≤-eq (sym (R.after s₀ g))) (split s₀ k))) (split s k)

  pub held_high : W (suc s) ≤q U (suc s₀)
  held_high = ⊎_elim
      (λ (h : s ≤ k). let e : s₀ ≡ s = S.left h in subst (λ m. W (suc s) ≤q U (suc m)) (sym e) (⊎_elim
      (λ (g : suc s ≤ k). ≤-eq (R.before (suc s) g))
      (λ (g : k < suc s). subst (λ y. W (suc s) ≤q y) (R.after (suc s) g) (K.mono (suc s) (suc (suc s)) (omega arith) (omega arith))) (split (suc s) k)))
      (λ (h : k < s). let e : suc s₀ ≡ s = S.right h in subst (λ m. W (suc m) ≤q U (suc s₀)) e (≤-eq (R.after (suc s₀) (omega arith)))) (split s k)

-- a knot between its two neighbours keeps the order
pub new-order : {U W : ℕ → ℚ} {k : ℕ} {x : ℚ} (R : Refined U W k x) (n : ℕ) → k < n → ((i j : ℕ) → i ≤ j → j < n → U i ≤q U j) → U k ≤q x → x ≤q U (suc k)
    → (i j : ℕ) → i ≤ j → j < suc n → W i ≤q W j
new-order {U} {W} {k} {x} R n place m low high = mono-of-steps W (suc n) step
  where
    past : (i : ℕ) → k < i → suc i < suc n → W i ≤q W (suc i)
    past zero h l = absurd (omega arith)
    past (suc j) h l = subst (λ y. W (suc j) ≤q y) (sym (R.after (suc j) h)) (⊎_elim
        (λ (e : k ≡ j). subst (λ m. W (suc m) ≤q U (suc m)) e (subst (λ y. y ≤q U (suc k)) (sym R.new) high))
        (λ (e : k < j). subst (λ y. y ≤q U (suc j)) (sym (R.after j e)) (m j (suc j) (omega arith) (omega arith)))
        (eq-or-lt_of_le {n = k} {m = j} (omega arith)))

    upto : (i : ℕ) → i ≤ k → suc i < suc n → W i ≤q W (suc i)
    upto i h l = subst (λ y. y ≤q W (suc i)) (sym (R.before i h)) (⊎_elim
        (λ (e : i ≡ k). subst (λ m. U m ≤q W (suc m)) (sym e) (subst (λ y. U k ≤q y) (sym R.new) low))
        (λ (e : i < k). subst (λ y. U i ≤q y) (sym (R.before (suc i) e)) (m i (suc i) (omega arith) (omega arith)))
        (eq-or-lt_of_le {n = i} {m = k} h))

    step : (i : ℕ) → suc i < suc n → W i ≤q W (suc i)
    step i l = ⊎_elim (λ (h : i ≤ k). upto i h l) (λ (h : k < i). past i h l) (split i k)

-- ---- the span of a parameter

equal : {a b : ℕ} → (a < b → ⊥) → (b < a → ⊥) → a ≡ b
equal {a} {b} f g = ⊎_elim
    (λ (h : a ≤ b). ⊎_elim (λ (e : a ≡ b). e) (λ (e : a < b). absurd (f e)) (eq-or-lt_of_le {n = a} {m = b} h))
    (λ (h : b < a). absurd (g h)) (split a b)

-- one span of knots in order holds t
module _ {U : ℕ → ℚ} {n : ℕ} (m : (i j : ℕ) → i ≤ j → j < n → U i ≤q U j) {a b : ℕ} (in₁ : a < n) (in₂ : b < n) {t : ℚ} where
  pub one_span : InSpan U a t → InSpan U b t → a ≡ b
  one_span A B = equal
      (λ h. not-both A.to (≤_trans (m (suc a) b h in₂) B.from))
      (λ h. not-both B.to (≤_trans (m (suc b) a h in₁) A.from))

  pub one_end : InEnd U a t → InEnd U b t → a ≡ b
  one_end A B = equal
      (λ h. not-both B.from (≤_trans A.to (m (suc a) b h in₂)))
      (λ h. not-both A.from (≤_trans B.to (m (suc b) a h in₁)))

-- each parameter of an old span is in a refined span that it holds
pub refined-span : {U W : ℕ → ℚ} {k : ℕ} {x : ℚ} (R : Refined U W k x) {s₀ : ℕ} {t : ℚ} → InSpan U s₀ t → (s : ℕ) × OldSpan k s s₀ × InSpan W s t
refined-span {U} {W} {k} {x} R {s₀} {t} I = ⊎_elim
    (λ (h : s₀ ≤ k). ⊎_elim at before (eq-or-lt_of_le {n = s₀} {m = k} h)) after (split s₀ k)
  where
    before : s₀ < k → (s : ℕ) × OldSpan k s s₀ × InSpan W s t
    before h = (
      s₀,
      record { left = λ g. refl; right = λ g. absurd (omega arith) },
      record { from = subst (λ y. y ≤q t) (sym (R.before s₀ (omega arith))) I.from; to = subst (λ y. t <q y) (sym (R.before (suc s₀) h)) I.to },
    )

    after : k < s₀ → (s : ℕ) × OldSpan k s s₀ × InSpan W s t
    after h = (
      suc s₀,
      record { left = λ g. absurd (omega arith); right = λ g. refl },
      record { from = subst (λ y. y ≤q t) (sym (R.after s₀ h)) I.from; to = subst (λ y. t <q y) (sym (R.after (suc s₀) (omega arith))) I.to },
    )

    at : s₀ ≡ k → (s : ℕ) × OldSpan k s s₀ × InSpan W s t
    at e = ⊎_elim
        (λ (h : x ≤q t). (
          suc s₀,
          record { left = λ g. absurd (omega arith); right = λ g. refl },
          record { from = subst (λ y. y ≤q t) (sym (ap (λ m. W (suc m)) e ∙ R.new)) h; to = subst (λ y. t <q y) (sym (R.after (suc s₀) (omega arith))) I.to },
        ))
        (λ (h : t <q x). (
          s₀,
          record { left = λ g. refl; right = λ g. absurd (omega arith) },
          record { from = subst (λ y. y ≤q t) (sym (R.before s₀ (omega arith))) I.from; to = subst (λ y. t <q y) (sym (ap (λ m. W (suc m)) e ∙ R.new)) h },
        ))
        (le-or-lt x t)
