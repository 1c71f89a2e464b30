-- The shares of a new knot and the controls that they blend, place by place; positive weights stay positive. Assumes nothing.
-- U is the knots, x the new knot after place k; p the degree; c the controls.
use mathlib.Core.Path.{◌≡◌, refl, sym, ◌∙◌, ap, subst}
use mathlib.Core.Logic.{◌⊎◌, inl, inr, ⊎_elim}
use mathlib.Core.List.{[], ◌∷◌}
use Prim.Native.Nat.{ℕ, zero, suc, ◌+◌, ◌≤◌, ◌<◌}
use native.Mathlib.Omega.{arith}
use lib.Dec.{leb, leb→le, le→leb}
use Rattle.exact.specs.Rational.{ℚ, ◌-q◌, ◌*q◌, ◌/q◌, inv, q0, q1, ◌≤q◌, ◌<q◌}
use Rattle.exact.specs.Boehm.{share, mix, inserted}
use Rattle.exact.proofs.Field.{qring, q-ring, div_is, le-or-lt, le-by, le-sub, ≤-refl, ≤-eq, ≤-antisym, ≤_trans, <-≤-trans, lt→le, q0<q1, div-zero, div-nonneg, div-le-1}
use Rattle.exact.proofs.DeBoor.{mix-low}
use Rattle.exact.proofs.Source.{cond_yes, cond_no}
use Rattle.exact.proofs.Refined.{split, Refined}

-- ---- the shares

module _ (U : ℕ → ℚ) (x : ℚ) (k p i : ℕ) where
  pub share-low : i + p ≤ k → share U x k p i ≡ q1
  unfolding share
  share-low h = cond_yes _ _ (leb (i + p) k) (le→leb (i + p) k h)

  pub share-mid : k < i + p → i ≤ k → share U x k p i ≡ (x -q U i) /q (U (i + p) -q U i)
  unfolding share
  share-mid h g =
      cond_no _ _ (leb (i + p) k) (λ z. let y : i + p ≤ k = leb→le (i + p) k z in omega arith)
      ∙ cond_yes _ _ (leb i k) (le→leb i k g)

  pub share-high : k < i → share U x k p i ≡ q0
  unfolding share
  share-high h =
      cond_no _ _ (leb (i + p) k) (λ z. let y : i + p ≤ k = leb→le (i + p) k z in omega arith)
      ∙ cond_no _ _ (leb i k) (λ z. let y : i ≤ k = leb→le i k z in omega arith)

-- past the places whose knot is x the share is 0: what the source copies there is what the theorem blends
pub share-multiple : (U : ℕ → ℚ) (x : ℚ) (k p i : ℕ) → k < i + p → i ≤ k → U i ≡ x → share U x k p i ≡ q0
share-multiple U x k p i h g e = share-mid U x k p i h g ∙ (div_is _ _ ∙ rw e (q-ring (x ∷ inv (U (i + p) -q x) ∷ []) (search qring depth 20) tt))

-- ---- the blended controls

pub mix-cong : {r r' a a' b b' : ℚ} → r ≡ r' → a ≡ a' → b ≡ b' → mix r a b ≡ mix r' a' b'
mix-cong e f g = rw (e, f, g)

mix-1 : (a b : ℚ) → mix q1 a b ≡ b
mix-1 a b = q-ring (a ∷ b ∷ []) (search qring depth 20) tt

mix-0 : (a b : ℚ) → mix q0 a b ≡ a
mix-0 a b = q-ring (a ∷ b ∷ []) (search qring depth 20) tt

module _ (U : ℕ → ℚ) (x : ℚ) (k p : ℕ) (c : ℕ → ℚ) where
  pub ins-zero : inserted U x k p c 0 ≡ c 0
  unfolding inserted
  ins-zero = refl

  pub ins-suc : (j : ℕ) → inserted U x k p c (suc j) ≡ mix (share U x k p (suc j)) (c j) (c (suc j))
  unfolding inserted
  ins-suc j = refl

  pub ins-low : (i : ℕ) → i + p ≤ k → inserted U x k p c i ≡ c i
  unfolding inserted
  ins-low zero h = refl
  ins-low (suc j) h = mix-cong (share-low U x k p (suc j) h) refl refl ∙ mix-1 (c j) (c (suc j))

  pub ins-mid : (j : ℕ) → k < suc j + p → suc j ≤ k → inserted U x k p c (suc j) ≡ mix ((x -q U (suc j)) *q inv (U (suc j + p) -q U (suc j))) (c j) (c (suc j))
  ins-mid j h g = ins-suc j ∙ mix-cong (share-mid U x k p (suc j) h g ∙ div_is _ _) refl refl

  pub ins-high : (j : ℕ) → k < suc j → inserted U x k p c (suc j) ≡ c j
  ins-high j h = ins-suc j ∙ (mix-cong (share-high U x k p (suc j) h) refl refl ∙ mix-0 (c j) (c (suc j)))

  -- past the places whose knot is x a control is moved on
  pub ins-multiple : (j : ℕ) → k < suc j + p → suc j ≤ k → U (suc j) ≡ x → inserted U x k p c (suc j) ≡ c j
  ins-multiple j h g e = ins-suc j ∙ (mix-cong (share-multiple U x k p (suc j) h g e) refl refl ∙ mix-0 (c j) (c (suc j)))

  -- where p knots are x already, the control there stands twice: the curve may break at x, and does not yet
  pub ins-break : (j : ℕ) → j + p ≡ k → ((i : ℕ) → j < i → i ≤ k → U i ≡ x) → inserted U x k p c (suc j) ≡ inserted U x k p c j
  ins-break j e full = ⊎_elim
      (λ (h : suc j ≤ k). ins-multiple j (omega arith) h (full (suc j) (omega arith) h))
      (λ (h : k < suc j). ins-high j h) (split (suc j) k)
      ∙ sym (ins-low j (omega arith))

-- ---- positive weights

sub-mono : {x y : ℚ} (u : ℚ) → x ≤q y → x -q u ≤q y -q u
sub-mono {x} {y} u h = le-by (le-sub h) (q-ring (u ∷ x ∷ y ∷ []) (search qring depth 20) tt)

-- 0 over 0 is 0, so the divisor need not be positive
unit-quotient : {a d : ℚ} → q0 ≤q a → a ≤q d → (q0 ≤q a /q d) × (a /q d ≤q q1)
unit-quotient {a} {d} h g = go (le-or-lt d q0)
  where
    go : (d ≤q q0) ⊎ (q0 <q d) → (q0 ≤q a /q d) × (a /q d ≤q q1)
    go (inl z) =
        let e : a /q d ≡ q0 = ap (λ y. a /q y) (≤-antisym z (≤_trans h g)) ∙ div-zero a in
        (≤-eq (sym e), subst (λ y. y ≤q q1) (sym e) (lt→le q0<q1))
    go (inr z) = (div-nonneg h z, div-le-1 g z)

pub mix-pos : (r a b : ℚ) → q0 ≤q r → r ≤q q1 → q0 <q a → q0 <q b → q0 <q mix r a b
mix-pos r a b l u h k = go (le-or-lt a b)
  where
    go : (a ≤q b) ⊎ (b <q a) → q0 <q mix r a b
    go (inl z) = <-≤-trans h (mix-low a r a b l u (≤-refl a) z)
    go (inr z) = <-≤-trans k (mix-low b r a b l u (lt→le z) (≤-refl b))

module _ {U W : ℕ → ℚ} {k : ℕ} {x : ℚ} (R : Refined U W k x) {n : ℕ} (m : (i j : ℕ) → i ≤ j → j < n → W i ≤q W j) (p : ℕ) (fits : suc (k + p) < n) where
  -- the new knot lies between the knots of a share, so the share lies in [0, 1]
  unit-share : (i : ℕ) → i ≤ k → (q0 ≤q share U x k p i) × (share U x k p i ≤q q1)
  unit-share i h = ⊎_elim
      (λ (a : i + p ≤ k). let e = share-low U x k p i a in (subst (λ y. q0 ≤q y) (sym e) (lt→le q0<q1), ≤-eq e))
      (λ (a : k < i + p).
      let l : U i ≤q x = subst (λ y. y ≤q x) (R.before i h) (subst (λ y. W i ≤q y) R.new (m i (suc k) (omega arith) (omega arith))) in
      let r : x ≤q U (i + p) = subst (λ y. x ≤q y) (R.after (i + p) a) (subst (λ y. y ≤q W (suc (i + p))) R.new (m (suc k) (suc (i + p)) (omega arith) (omega arith))) in
      subst (λ y. (q0 ≤q y) × (y ≤q q1)) (sym (share-mid U x k p i a h)) (unit-quotient (le-sub l) (sub-mono (U i) r)))
      (split (i + p) k)

  -- positive weights stay positive
  pub inserted-pos : (w : ℕ → ℚ) (count : ℕ) → k < count → ((i : ℕ) → i < count → q0 <q w i) → (i : ℕ) → i < suc count → q0 <q inserted U x k p w i
  inserted-pos w count b h zero l = subst (λ y. q0 <q y) (sym (ins-zero U x k p w)) (h 0 (omega arith))
  inserted-pos w count b h (suc j) l = ⊎_elim
      (λ (a : suc j ≤ k). let r = unit-share (suc j) a in
      subst (λ y. q0 <q y) (sym (ins-suc U x k p w j)) (mix-pos (share U x k p (suc j)) (w j) (w (suc j)) r.0 r.1 (h j (omega arith)) (h (suc j) (omega arith))))
      (λ (a : k < suc j). subst (λ y. q0 <q y) (sym (ins-high U x k p w j a)) (h j (omega arith))) (split (suc j) k)
