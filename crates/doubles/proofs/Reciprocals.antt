-- The ends of a reciprocal: for a q in [a, b], all on one side of 0, 1 / q lies above `next_down m` for any m no larger than the rounded 1 / b, and below `next_up m` for any m no
-- smaller than the rounded 1 / a. Assumes nothing.
use mathlib.Core.Path.{◌≡◌, refl, sym, ap, ◌∙◌}
use mathlib.Core.Logic.{◌⊎◌, inl, inr}
use Prim.Native.Nat.{ℕ, zero, suc, ◌*◌}
use native.Mathlib.Nat.{mul-pos, zero-lt-suc, one-mul, mul-one}
use mathlib.Core.Bool.{Bool, true, false, cond}
use lib.IntN.{ℤ, pos}
use lib.Dec.{T, eqb, eqb-suc-zero}
use lib.Ieee.{Float, nan, inf, fin, Format, up, down, round, div, unlike, fits, is_nan, lt}
use lib.Ieee.Fits.{down_pos, up_pos}
use Rattle.exact.specs.Rational.{ℚ, inv, q0, ◌<q◌}
use Rattle.exact.proofs.Field.{≤-refl, ≤-eq, ≤-<-trans, <-≤-trans, lt→ne, not-both, inv-mono, inv-mono-neg, inv-neg, inv-nonneg}
use Rattle.doubles.specs.Value.{zero+, one+, ratio, val, Lower, Upper, Number, ◌⊑◌}
use Rattle.doubles.specs.Neighbour.{up_from, down_from}
use Rattle.doubles.proofs.Value.{val_is, val-zeros, ratio-inv}
use Rattle.doubles.proofs.Own.{own}
use Rattle.doubles.proofs.Enclose.{round_number}
use Rattle.doubles.proofs.Sums.{Rounded, rounded-lower, rounded-upper}
use Rattle.doubles.proofs.Limits.{end-above, end_below}

-- ---- what 1 / x rounds
sizes : (s : Bool) (n : ℕ) (d : ℤ) → ratio s (1 * 1 * down d) (suc n * up d * 1) ≡ inv (val (fin s (suc n) d))
sizes s n d =
    ap (λ (k : ℕ). ratio s k (suc n * up d * 1)) (one-mul (down d)) ∙ ap (ratio s (down d)) (mul-one (suc n * up d))
    ∙ sym (ap inv (val_is s (suc n) d) ∙ ratio-inv s (suc n * up d) (down d) (mul-pos (zero-lt-suc n) (up_pos d)) (down_pos d))

like : (s : Bool) → unlike false s ≡ s
like true = refl
like false = refl

pub inverse-rounded : (f : Format) (s : Bool) (n : ℕ) (d : ℤ) → Rounded f (div f one+ (fin s (suc n) d)) (inv (val (fin s (suc n) d)))
unfolding div
inverse-rounded f s n d =
    record {
      sign = s;
      num = 1 * 1 * down d;
      den = suc n * up d * 1;
      proper = mul-pos (mul-pos (zero-lt-suc n) (up_pos d)) (zero-lt-suc 0);
      made = ap (λ (b : Bool). cond b (inf (unlike false s)) (round f (unlike false s) (1 * 1 * down d) (suc n * up d * 1))) (eqb-suc-zero n)
          ∙ ap (λ (t : Bool). round f t (1 * 1 * down d) (suc n * up d * 1)) (like s);
      worth = sizes s n d;
    }

-- 1 over an infinity is a zero
zero-rounded : (f : Format) (s : Bool) → Rounded f (div f one+ (inf s)) q0
unfolding div
zero-rounded f s =
    record {
      sign = s;
      num = 0 * 1;
      den = 1;
      proper = zero-lt-suc 0;
      made = ap (λ (t : Bool). fin t 0 (pos 0)) (like s) ∙ sym (own f s 0 (pos 0) (unfold fits in tt));
      worth = sym (val_is s 0 (pos 0)) ∙ val-zeros s (pos 0);
    }

-- 1 / x is a number wherever x is
pub recip-number : (f : Format) (x : Float) → Number x → Number (div f one+ x)
unfolding div is_nan
recip-number f nan n = absurd n
recip-number f (inf s) n = tt
recip-number f (fin s k e) n = go (eqb k 0)
  where
    go : (b : Bool) → Number (cond b (inf (unlike false s)) (round f (unlike false s) (1 * 1 * down e) (k * up e * 1)))
    go true = tt
    go false = unfold is_nan in round_number f (unlike false s) (1 * 1 * down e) (k * up e * 1)

-- ---- the ends: the side of 0 is told by q or by the end itself
module _ (f : Format) (m : Float) (hm : T (fits f m)) (nm : Number m) (q : ℚ) where
  pub recip-lower : (b : Float) → (q0 <q q) ⊎ T (lt b zero+) → Upper b q → m ⊑ div f one+ b → Lower (down_from f m) (inv q)
  recip-lower nan o B g = absurd B
  recip-lower (inf true) o B g = absurd B
  recip-lower (inf false) (inl p) B g = rounded-lower f (zero-rounded f false) m hm nm g (inv-nonneg p)
  recip-lower (inf false) (inr l) B g = absurd (unfold lt in l)
  recip-lower (fin s zero d) (inl p) B g = absurd (not-both (<-≤-trans p B) (≤-eq (val-zeros s d)))
  recip-lower (fin s zero d) (inr l) B g = absurd (lt→ne (end_below (fin s zero d) _ l (≤-refl _)) (val-zeros s d))
  recip-lower (fin s (suc n) d) (inl p) B g = rounded-lower f (inverse-rounded f s n d) m hm nm g (inv-mono p B)
  recip-lower (fin s (suc n) d) (inr l) B g = rounded-lower f (inverse-rounded f s n d) m hm nm g (inv-mono-neg (end_below (fin s (suc n) d) _ l (≤-refl _)) B)

  pub recip-upper : (a : Float) → T (lt zero+ a) ⊎ (q <q q0) → Lower a q → div f one+ a ⊑ m → Upper (up_from f m) (inv q)
  recip-upper nan o A g = absurd A
  recip-upper (inf false) o A g = absurd A
  recip-upper (inf true) (inl l) A g = absurd (unfold lt in l)
  recip-upper (inf true) (inr p) A g = rounded-upper f (zero-rounded f true) m hm nm g (inv-neg p)
  recip-upper (fin s zero d) (inl l) A g = absurd (lt→ne (end-above (fin s zero d) _ l (≤-refl _)) (sym (val-zeros s d)))
  recip-upper (fin s zero d) (inr p) A g = absurd (lt→ne (≤-<-trans A p) (val-zeros s d))
  recip-upper (fin s (suc n) d) (inl l) A g = rounded-upper f (inverse-rounded f s n d) m hm nm g (inv-mono (end-above (fin s (suc n) d) _ l (≤-refl _)) A)
  recip-upper (fin s (suc n) d) (inr p) A g = rounded-upper f (inverse-rounded f s n d) m hm nm g (inv-mono-neg p A)
