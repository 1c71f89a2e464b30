-- The order of doubles is that of their places.
-- Assumes nothing.
use mathlib.Core.Path.{◌≡◌, refl, sym, ap, ◌∙◌, subst}
use mathlib.Core.Logic.{◌⊎◌, inl, inr}
use Prim.Native.Nat.{ℕ, zero, suc, ◌+◌, ◌*◌, ◌^◌, ◌≤◌, ◌<◌}
use native.Mathlib.Nat.{le_refl, le_of_lt, lt_irrefl, zero-lt-suc, zero-add, zero-mul, mul_comm, mul_assoc, mul_right_comm, mul-pos, mul-lt-mul_of_pos_right, eq-or-lt_of_le}
use native.Mathlib.Nat.{not-le_of_lt, lt_of_not-le}
use native.Mathlib.Omega.{arith}
use mathlib.Core.Bool.{Bool, true, false, not, ◌&&◌}
use lib.Signed.{lt_z}
use lib.Dec.{T, ltb, ltb→lt, lt→ltb, leb-suc-zero, leb-suc-suc}
use lib.Arith.{le→nltb}
use lib.Pow.{pow_pos}
use lib.Ieee.{Float, nan, inf, fin, Format, low, up, down, fits, is_nan, lt, below}
use lib.Ieee.Fits.{down_pos}
use lib.Ieee.Bits.{is_true, is_false}
use Rattle.doubles.specs.Value.{signed}
use Rattle.doubles.specs.Place.{sign_bit, inf_pat, mag, place}
use Rattle.doubles.proofs.TestFacts.{same_test}
use Rattle.doubles.proofs.Pattern.{ticks, ticks-lt, ticks-zero}
use Rattle.doubles.proofs.Place.{mag-lt, units_of, inf_pat-pos}

-- ---- the order is that of the places
pub lt_z-signed : (s : Bool) (a : ℕ) (t : Bool) (b : ℕ) → lt_z (signed s a) (signed t b) ≡ below s a t b
lt_z-signed false a false b = refl
lt_z-signed false a true zero = leb-suc-zero a
lt_z-signed false a true (suc b) = refl
lt_z-signed true zero false b = ap (λ (z : ℕ). ltb 0 z) (sym (zero-add b))
lt_z-signed true (suc a) false b = sym (is_true (ltb 0 (suc a + b)) (lt→ltb 0 (suc a + b) (go a b)))
  where
    go : (a b : ℕ) → 0 < suc a + b
    go a b = omega arith
lt_z-signed true zero true zero = refl
lt_z-signed true zero true (suc b) = sym (leb-suc-zero (suc b))
lt_z-signed true (suc a) true zero = sym (is_true (ltb 0 (suc a)) (lt→ltb 0 (suc a) (zero-lt-suc a)))
lt_z-signed true (suc a) true (suc b) = sym (leb-suc-suc (suc b) a)

-- a map of sizes that keeps strict order and 0 keeps the order of signed numbers
module _ (g : ℕ → ℕ) (mono : (a b : ℕ) → a < b → g a < g b) (at0 : g 0 ≡ 0) where
  reflects : (a b : ℕ) → g a < g b → a < b
  reflects a b h = lt_of_not-le (λ (k : b ≤ a). elim (eq-or-lt_of_le k) [ inl e ↦ lt_irrefl (g a) (subst (λ (z : ℕ). g a < g z) e h) | inr l ↦ not-le_of_lt h (le_of_lt (mono b a l)) ])

  same-lt : (a b : ℕ) → ltb (g a) (g b) ≡ ltb a b
  same-lt a b = same_test (ltb (g a) (g b)) (ltb a b) (λ t. lt→ltb a b (reflects a b (ltb→lt (g a) (g b) t))) (λ t. lt→ltb (g a) (g b) (mono a b (ltb→lt a b t)))

  pos_of : (a : ℕ) → 0 < g a → 0 < a
  pos_of a h = reflects 0 a (subst (λ (z : ℕ). z < g a) (sym at0) h)

  to_pos : (a : ℕ) → 0 < a → 0 < g a
  to_pos a h = subst (λ (z : ℕ). z < g a) at0 (mono 0 a h)

  some-pos : (a b : ℕ) → 0 < a + b → (0 < a) ⊎ (0 < b)
  some-pos zero b h = inr (subst (λ (z : ℕ). 0 < z) (zero-add b) h)
  some-pos (suc a) b h = inl (zero-lt-suc a)

  add-l : (a b : ℕ) → 0 < a → 0 < a + b
  add-l a b h = omega arith

  add_r : (a b : ℕ) → 0 < b → 0 < a + b
  add_r a b h = omega arith

  same_some : (a b : ℕ) → ltb 0 (g a + g b) ≡ ltb 0 (a + b)
  same_some a b =
      same_test (ltb 0 (g a + g b)) (ltb 0 (a + b))
      (λ t. lt→ltb 0 (a + b) (elim (some-pos (g a) (g b) (ltb→lt 0 (g a + g b) t)) [ inl p ↦ add-l a b (pos_of a p) | inr p ↦ add_r a b (pos_of b p) ]))
      (λ t. lt→ltb 0 (g a + g b) (elim (some-pos a b (ltb→lt 0 (a + b) t)) [ inl p ↦ add-l (g a) (g b) (to_pos a p) | inr p ↦ add_r (g a) (g b) (to_pos b p) ]))

  pub below-map : (s : Bool) (a : ℕ) (t : Bool) (b : ℕ) → below s (g a) t (g b) ≡ below s a t b
  below-map false a false b = same-lt a b
  below-map false a true b = refl
  below-map true a false b = same_some a b
  below-map true a true b = same-lt b a

pub below-scale : (k : ℕ) → 0 < k → (s : Bool) (a : ℕ) (t : Bool) (b : ℕ) → below s (a * k) t (b * k) ≡ below s a t b
below-scale k K = below-map (λ (a : ℕ). a * k) (λ a b h. mul-lt-mul_of_pos_right h K) (zero-mul k)

cross-l : (x c a de dd : ℕ) → x * c ≡ a * de → x * dd * c ≡ a * (de * dd)
cross-l x c a de dd p = mul_right_comm x dd c ∙ ap (λ (z : ℕ). z * dd) p ∙ mul_assoc a de dd

cross-r : (y c b de dd : ℕ) → y * c ≡ b * dd → y * de * c ≡ b * (de * dd)
cross-r y c b de dd p = mul_right_comm y de c ∙ ap (λ (z : ℕ). z * de) p ∙ mul_assoc b dd de ∙ ap (λ (z : ℕ). b * z) (mul_comm dd de)

under-p : (s : Bool) (P b : ℕ) → b < P → below true P s b ≡ true
under-p false P b h = is_true (ltb 0 (P + b)) (lt→ltb 0 (P + b) (go P b h))
  where
    go : (P b : ℕ) → b < P → 0 < P + b
    go P b h = omega arith
under-p true P b h = is_true (ltb b P) (lt→ltb b P h)

over-p : (s : Bool) (P b : ℕ) → b < P → below false P s b ≡ false
over-p false P b h = is_false (ltb P b) (le→nltb P b (le_of_lt h))
over-p true P b h = refl

below-p : (s : Bool) (P b : ℕ) → b < P → below s b false P ≡ true
below-p false P b h = is_true (ltb b P) (lt→ltb b P h)
below-p true P b h = is_true (ltb 0 (b + P)) (lt→ltb 0 (b + P) (go P b h))
  where
    go : (P b : ℕ) → b < P → 0 < b + P
    go P b h = omega arith

above-p : (s : Bool) (P b : ℕ) → b < P → below s b true P ≡ false
above-p false P b h = refl
above-p true P b h = is_false (ltb P b) (le→nltb P b (le_of_lt h))

inf-inf : (P : ℕ) → 0 < P → (s t : Bool) → (s && not t) ≡ below s P t P
inf-inf P h false false = sym (is_false (ltb P P) (le→nltb P P (le_refl P)))
inf-inf P h false true = refl
inf-inf P h true false = sym (is_true (ltb 0 (P + P)) (lt→ltb 0 (P + P) (go P h)))
  where
    go : (P : ℕ) → 0 < P → 0 < P + P
    go P h = omega arith
inf-inf P h true true = sym (is_false (ltb P P) (le→nltb P P (le_refl P)))

pub lt-below : (f : Format) (x y : Float) → T (fits f x) → T (fits f y) → T (not (is_nan x)) → T (not (is_nan y)) → lt x y ≡ below (sign_bit x) (mag f x) (sign_bit y) (mag f y)
unfolding lt is_nan
lt-below f nan y h k p q = absurd p
lt-below f (inf s) nan h k p q = absurd q
lt-below f (inf s) (inf t) h k p q = inf-inf (inf_pat f) (inf_pat-pos f) s t
lt-below f (inf true) (fin t n d) h k p q = sym (under-p t (inf_pat f) (mag f (fin t n d)) (mag-lt f t n d k))
lt-below f (inf false) (fin t n d) h k p q = sym (over-p t (inf_pat f) (mag f (fin t n d)) (mag-lt f t n d k))
lt-below f (fin s m e) nan h k p q = absurd q
lt-below f (fin s m e) (inf true) h k p q = sym (above-p s (inf_pat f) (mag f (fin s m e)) (mag-lt f s m e h))
lt-below f (fin s m e) (inf false) h k p q = sym (below-p s (inf_pat f) (mag f (fin s m e)) (mag-lt f s m e h))
lt-below f (fin s m e) (fin t n d) h k p q =
    let a = ticks f (mag f (fin s m e)) in
    let b = ticks f (mag f (fin t n d)) in
    sym (below-scale (2 ^ low f) (pow_pos (low f)) s (m * up e * down d) t (n * up d * down e))
    ∙ ap (λ (z : ℕ). below s z t (n * up d * down e * 2 ^ low f)) (cross-l (m * up e) (2 ^ low f) a (down e) (down d) (units_of f s m e h).1)
    ∙ ap (λ (z : ℕ). below s (a * (down e * down d)) t z) (cross-r (n * up d) (2 ^ low f) b (down e) (down d) (units_of f t n d k).1)
    ∙ below-scale (down e * down d) (mul-pos (down_pos e) (down_pos d)) s a t b
    ∙ below-map (ticks f) (ticks-lt f) (ticks-zero f) s (mag f (fin s m e)) t (mag f (fin t n d))

pub lt-place : (f : Format) (x y : Float) → T (fits f x) → T (fits f y) → T (not (is_nan x)) → T (not (is_nan y)) → lt x y ≡ lt_z (place f x) (place f y)
lt-place f x y h k p q = lt-below f x y h k p q ∙ sym (lt_z-signed (sign_bit x) (mag f x) (sign_bit y) (mag f y))
