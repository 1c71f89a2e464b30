-- Surfaces: sums of products of basis functions along u and v, and the source's net of nets. Assumes nothing.
use mathlib.Core.Path.{◌≡◌, refl, sym, ◌∙◌, ap, ap₂, subst, fun_ext}
use mathlib.Core.Logic.{◌≢◌}
use mathlib.Core.List.{[], ◌∷◌}
use Prim.Native.Nat.{ℕ, suc, ◌+◌, ◌≤◌, ◌<◌, zero-le}
use Rattle.exact.specs.Rational.{ℚ, ◌+q◌, ◌-q◌, ◌*q◌, ◌/q◌, negq, inv, q0, q1, ◌≤q◌, ◌<q◌}
use Rattle.exact.specs.Spline.{Σq, basis, Knots, whole, dbasis, quotient, dwhole}
use Rattle.exact.specs.Surface.{exact₂, sum₂, whole₂, dexact₂u, dexact₂v}
use Rattle.exact.proofs.Field.{qring, q-ring, ≤_trans, <-≤-trans, pos-ne, div-le-div, div-eq, one-mul, inv-ne-0}
use Rattle.exact.proofs.Sum.{Σ-cong, Σ-mul, Σ-scale, Σ-relative, Σ-outer}
use Rattle.exact.proofs.DeBoor.{relative, deboor-low, deboor-high}
use Rattle.exact.proofs.Source.{work}
use Rattle.exact.proofs.SourceCurve.{work-is, work-curve}
use Rattle.exact.proofs.Curve.{whole-curve}
use Rattle.exact.proofs.Deriv.{quotient-relative}
use Rattle.exact.proofs.Jets.{dwork, dwhole-work, whole-work}

pub sum₂-nested : (m n : ℕ) (A B : ℕ → ℚ) (c : ℕ → ℕ → ℚ) → sum₂ m n A B c ≡ Σq m (λ i. A i *q Σq n (λ j. B j *q c i j))
unfolding sum₂
sum₂-nested m n A B c = Σ-cong m (λ i l. Σ-cong n (λ j k. q-ring (A i ∷ B j ∷ c i j ∷ []) (search qring depth 20) tt) ∙ Σ-mul n (A i) (λ j. B j *q c i j))

pub sum₂-scale : (m n : ℕ) (A B : ℕ → ℚ) (w : ℕ → ℕ → ℚ) (σ : ℚ) → sum₂ m n A B (λ i j. w i j /q σ) ≡ inv σ *q sum₂ m n A B w
unfolding sum₂
sum₂-scale m n A B w σ = Σ-cong m (λ i l. Σ-scale n (λ j. A i *q B j) (w i) σ) ∙ Σ-mul m (inv σ) (λ i. Σq n (λ j. A i *q B j *q w i j))

pub sum₂-relative : (m n : ℕ) (A B : ℕ → ℚ) (w P : ℕ → ℕ → ℚ) (r σ : ℚ)
    → sum₂ m n A B (λ i j. (P i j -q r) *q (w i j /q σ)) ≡ inv σ *q (sum₂ m n A B (λ i j. w i j *q P i j) -q r *q sum₂ m n A B w)
unfolding sum₂
sum₂-relative m n A B w P r σ = Σ-cong m (λ i l. Σ-relative n (λ j. A i *q B j) (w i) (P i) r σ)
    ∙ Σ-outer m (λ i. Σq n (λ j. A i *q B j *q (w i j *q P i j))) (λ i. Σq n (λ j. A i *q B j *q w i j)) r (inv σ)

pub whole₂-is : (U : ℕ → ℚ) (u : ℚ) (s p count : ℕ) (U' : ℕ → ℚ) (v : ℚ) (z q count' : ℕ) (c : ℕ → ℕ → ℚ)
    → whole₂ U u s p count U' v z q count' c ≡ whole U u s p count (λ i. whole U' v z q count' (c i))
unfolding whole₂ sum₂ whole
whole₂-is U u s p count U' v z q count' c = Σ-cong count (λ i l.
    Σ-cong count' (λ j k. q-ring (basis U u s p i ∷ basis U' v z q j ∷ c i j ∷ []) (search qring depth 20) tt)
    ∙ Σ-mul count' (basis U u s p i) (λ j. basis U' v z q j *q c i j))

-- the source's net of nets: along v in each row, then along u; and its derivatives
unfoldable pub net : (ℕ → ℚ) → ℚ → ℕ → ℕ → ℕ → (ℕ → ℚ) → ℚ → ℕ → ℕ → ℕ → (ℕ → ℕ → ℚ) → ℚ
unfolding work
net U u s p b U' v z q d c = work U u p s (λ m. work U' v q z (λ k. c (b + m) (d + k)) q q) p p

unfoldable pub net-du : (ℕ → ℚ) → ℚ → ℕ → ℕ → ℕ → (ℕ → ℚ) → ℚ → ℕ → ℕ → ℕ → (ℕ → ℕ → ℚ) → ℚ
unfolding work dwork
net-du U u s p b U' v z q d c = dwork U u p s (λ m. work U' v q z (λ k. c (b + m) (d + k)) q q) (λ m. q0) p p

unfoldable pub net-dv : (ℕ → ℚ) → ℚ → ℕ → ℕ → ℕ → (ℕ → ℚ) → ℚ → ℕ → ℕ → ℕ → (ℕ → ℕ → ℚ) → ℚ
unfolding work dwork
net-dv U u s p b U' v z q d c = work U u p s (λ m. dwork U' v q z (λ k. c (b + m) (d + k)) (λ k. q0) q q) p p

module _ {U U' : ℕ → ℚ} {n n' s z : ℕ} (K : Knots U n s) (L : Knots U' n' z) (p b count q d count' : ℕ)
    (e : b + p ≡ s) (f : s < count) (g : s + p < n) (e' : d + q ≡ z) (f' : z < count') (g' : z + q < n') where
  pub net-is : (u v : ℚ) (c : ℕ → ℕ → ℚ) → net U u s p b U' v z q d c ≡ whole₂ U u s p count U' v z q count' c
  unfolding net
  net-is u v c =
      ap (λ h. work U u p s h p p) (fun_ext (λ m. work-curve L v q d (λ k. c (b + m) (d + k)) e' g' ∙ sym (whole-curve L q d count' e' f' g' v (c (b + m)))))
      ∙ work-curve K u p b (λ m. whole U' v z q count' (c (b + m))) e g
      ∙ sym (whole-curve K p b count e f g u (λ i. whole U' v z q count' (c i)))
      ∙ sym (whole₂-is U u s p count U' v z q count' c)

  module _ {u v : ℚ} (u-low : U s ≤q u) (u-high : u ≤q U (suc s)) (v_low : U' z ≤q v) (v_high : v ≤q U' (suc z)) (c : ℕ → ℕ → ℚ) where
    pub net-low : (a : ℚ) → ((m k : ℕ) → m ≤ p → k ≤ q → a ≤q c (b + m) (d + k)) → a ≤q net U u s p b U' v z q d c
    unfolding net
    net-low a h = rw (work-is U u p s (λ m. work U' v q z (λ k. c (b + m) (d + k)) q q) b e)
        (deboor-low K u-low u-high a p b _ e g (λ m l. rw (work-is U' v q z (λ k. c (b + m) (d + k)) d e')
        (deboor-low L v_low v_high a q d _ e' g' (λ k l'. h m k l l'))))

    pub net-high : (a : ℚ) → ((m k : ℕ) → m ≤ p → k ≤ q → c (b + m) (d + k) ≤q a) → net U u s p b U' v z q d c ≤q a
    unfolding net
    net-high a h = rw (work-is U u p s (λ m. work U' v q z (λ k. c (b + m) (d + k)) q q) b e)
        (deboor-high K u-low u-high a p b _ e g (λ m l. rw (work-is U' v q z (λ k. c (b + m) (d + k)) d e')
        (deboor-high L v_low v_high a q d _ e' g' (λ k l'. h m k l l'))))

  -- ---- the exact point and its two derivatives, as the source works them out

  whole₂-sum : (u v : ℚ) (c : ℕ → ℕ → ℚ) → whole₂ U u s p count U' v z q count' c ≡ sum₂ count count' (basis U u s p) (basis U' v z q) c
  unfolding whole₂ sum₂
  whole₂-sum u v c = refl

  whole_sum : (v : ℚ) (c : ℕ → ℚ) → whole U' v z q count' c ≡ Σq count' (λ j. basis U' v z q j *q c j)
  unfolding whole
  whole_sum v c = refl

  whole-sum' : (u : ℚ) (c : ℕ → ℚ) → whole U u s p count c ≡ Σq count (λ j. basis U u s p j *q c j)
  unfolding whole
  whole-sum' u c = refl

  dwhole-sum : (u : ℚ) (c : ℕ → ℚ) → dwhole U u s p count c ≡ Σq count (λ i. dbasis U u s p i *q c i)
  unfolding dwhole
  dwhole-sum u c = refl

  dwhole-sum' : (v : ℚ) (c : ℕ → ℚ) → dwhole U' v z q count' c ≡ Σq count' (λ j. dbasis U' v z q j *q c j)
  unfolding dwhole
  dwhole-sum' v c = refl

  pub net-du-is : (u v : ℚ) (c : ℕ → ℕ → ℚ) → net-du U u s p b U' v z q d c ≡ sum₂ count count' (dbasis U u s p) (basis U' v z q) c
  unfolding net-du
  net-du-is u v c =
      ap (λ h. dwork U u p s h (λ m. q0) p p) (fun_ext (λ m. sym (whole-work L q d count' e' f' g' v (c (b + m)))))
      ∙ sym (dwhole-work K p b count e f g u (λ i. whole U' v z q count' (c i)))
      ∙ dwhole-sum u (λ i. whole U' v z q count' (c i)) ∙ Σ-cong count (λ i l. ap (λ x. dbasis U u s p i *q x) (whole_sum v (c i)))
      ∙ sym (sum₂-nested count count' (dbasis U u s p) (basis U' v z q) c)

  pub net-dv-is : (u v : ℚ) (c : ℕ → ℕ → ℚ) → net-dv U u s p b U' v z q d c ≡ sum₂ count count' (basis U u s p) (dbasis U' v z q) c
  unfolding net-dv
  net-dv-is u v c =
      ap (λ h. work U u p s h p p) (fun_ext (λ m. sym (dwhole-work L q d count' e' f' g' v (c (b + m)))))
      ∙ sym (whole-work K p b count e f g u (λ i. dwhole U' v z q count' (c i)))
      ∙ whole-sum' u (λ i. dwhole U' v z q count' (c i)) ∙ Σ-cong count (λ i l. ap (λ x. basis U u s p i *q x) (dwhole-sum' v (c i)))
      ∙ sym (sum₂-nested count count' (basis U u s p) (dbasis U' v z q) c)

  module _ (w P : ℕ → ℕ → ℚ) (r σ : ℚ) (σ-ne : σ ≢ q0) where
    net-scale : (u v : ℚ) → net U u s p b U' v z q d (λ i j. w i j /q σ) ≡ inv σ *q whole₂ U u s p count U' v z q count' w
    net-scale u v = net-is u v _ ∙ whole₂-sum u v _ ∙ sum₂-scale count count' (basis U u s p) (basis U' v z q) w σ
        ∙ ap (λ x. inv σ *q x) (sym (whole₂-sum u v w))

    net-relative : (u v : ℚ) → net U u s p b U' v z q d (λ i j. (P i j -q r) *q (w i j /q σ))
        ≡ inv σ *q (whole₂ U u s p count U' v z q count' (λ i j. w i j *q P i j) -q r *q whole₂ U u s p count U' v z q count' w)
    net-relative u v = net-is u v _ ∙ whole₂-sum u v _ ∙ sum₂-relative count count' (basis U u s p) (basis U' v z q) w P r σ
        ∙ ap₂ (λ x y. inv σ *q (x -q r *q y)) (sym (whole₂-sum u v (λ i j. w i j *q P i j))) (sym (whole₂-sum u v w))

    shape : (q X W : ℚ) → q *q (X -q r *q W) ≡ q *q X +q negq (r *q q) *q W
    shape q X W = q-ring (q ∷ X ∷ W ∷ r ∷ []) (search qring depth 20) tt

    pub exact₂-net : (u v : ℚ) → whole₂ U u s p count U' v z q count' w ≢ q0
        → exact₂ U u s p count U' v z q count' w P ≡ net U u s p b U' v z q d (λ i j. (P i j -q r) *q (w i j /q σ)) /q net U u s p b U' v z q d (λ i j. w i j /q σ) +q r
    unfolding exact₂
    exact₂-net u v h = sym (relative (whole₂ U u s p count U' v z q count' (λ i j. w i j *q P i j)) (whole₂ U u s p count U' v z q count' w) r (inv σ) _ _
        (inv-ne-0 σ-ne) h (net-scale u v) (net-relative u v ∙ shape (inv σ) _ _))

    -- the derivative along u: the quotient rule over Σ Σ N' M w P and Σ Σ N' M w
    pub exact₂-du : (u v : ℚ) → whole₂ U u s p count U' v z q count' w ≢ q0
        → dexact₂u U u s p count U' v z q count' w P
        ≡ quotient (net U u s p b U' v z q d (λ i j. (P i j -q r) *q (w i j /q σ))) (net-du U u s p b U' v z q d (λ i j. (P i j -q r) *q (w i j /q σ)))
        (net U u s p b U' v z q d (λ i j. w i j /q σ)) (net-du U u s p b U' v z q d (λ i j. w i j /q σ))
    unfolding dexact₂u
    exact₂-du u v h =
        let e₂ = net-du-is u v (λ i j. (P i j -q r) *q (w i j /q σ)) ∙ sum₂-relative count count' (dbasis U u s p) (basis U' v z q) w P r σ in
        let e₄ = net-du-is u v (λ i j. w i j /q σ) ∙ sum₂-scale count count' (dbasis U u s p) (basis U' v z q) w σ in
        sym (rw (net-relative u v, net-scale u v, e₂, e₄) (quotient-relative _ _ _ _ r (inv σ) (inv-ne-0 σ-ne) h))

    -- and along v
    pub exact₂-dv : (u v : ℚ) → whole₂ U u s p count U' v z q count' w ≢ q0
        → dexact₂v U u s p count U' v z q count' w P
        ≡ quotient (net U u s p b U' v z q d (λ i j. (P i j -q r) *q (w i j /q σ))) (net-dv U u s p b U' v z q d (λ i j. (P i j -q r) *q (w i j /q σ)))
        (net U u s p b U' v z q d (λ i j. w i j /q σ)) (net-dv U u s p b U' v z q d (λ i j. w i j /q σ))
    unfolding dexact₂v
    exact₂-dv u v h =
        let e₂ = net-dv-is u v (λ i j. (P i j -q r) *q (w i j /q σ)) ∙ sum₂-relative count count' (basis U u s p) (dbasis U' v z q) w P r σ in
        let e₄ = net-dv-is u v (λ i j. w i j /q σ) ∙ sum₂-scale count count' (basis U u s p) (dbasis U' v z q) w σ in
        sym (rw (net-relative u v, net-scale u v, e₂, e₄) (quotient-relative _ _ _ _ r (inv σ) (inv-ne-0 σ-ne) h))

  -- ---- the weight's cut

  module _ {u v : ℚ} (u-low : U s ≤q u) (u-high : u ≤q U (suc s)) (v_low : U' z ≤q v) (v_high : v ≤q U' (suc z)) (w : ℕ → ℕ → ℚ) (a σ : ℚ)
      (a-pos : q0 <q a) (least : (m k : ℕ) → m ≤ p → k ≤ q → a ≤q w (b + m) (d + k)) (most : (m k : ℕ) → m ≤ p → k ≤ q → w (b + m) (d + k) ≤q σ) where
    scale-pos : q0 <q σ
    scale-pos = <-≤-trans a-pos (≤_trans (least 0 0 zero-le zero-le) (most 0 0 zero-le zero-le))

    pub weight₂-pos : q0 <q whole₂ U u s p count U' v z q count' w
    weight₂-pos = <-≤-trans a-pos (subst (λ x. a ≤q x) (net-is u v w) (net-low u-low u-high v_low v_high w a least))

    pub weight₂-low : a /q σ ≤q net U u s p b U' v z q d (λ i j. w i j /q σ)
    weight₂-low = net-low u-low u-high v_low v_high (λ i j. w i j /q σ) (a /q σ) (λ m k g h. div-le-div (least m k g h) scale-pos)

    pub weight₂-le-1 : net U u s p b U' v z q d (λ i j. w i j /q σ) ≤q q1
    weight₂-le-1 = net-high u-low u-high v_low v_high (λ i j. w i j /q σ) q1
        (λ m k g h. subst (λ x. w (b + m) (d + k) /q σ ≤q x) (div-eq {z = q1} (pos-ne scale-pos) (one-mul σ)) (div-le-div (most m k g h) scale-pos))
