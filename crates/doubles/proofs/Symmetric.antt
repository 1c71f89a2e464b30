-- Of two numbers and their opposites the greatest is the larger of two sizes, and the least is its opposite: the ends of a product with an interval that is symmetric about zero.
-- Zeros of either sign count as one number, since a step from them is the same. Assumes nothing.
use mathlib.Core.Path.{◌≡◌, refl, sym, ap, ◌∙◌, subst}
use mathlib.Core.Logic.{◌⊎◌, inl, inr}
use Prim.Native.Nat.{ℕ, zero, suc, ◌+◌, ◌-◌, ◌*◌, ◌/◌, ◌^◌}
use native.Mathlib.Nat.{le_antisymm, mul_right_comm}
use native.Mathlib.Omega.{arith}
use mathlib.Core.Bool.{Bool, true, false, not, ◌||◌, cond}
use lib.IntN.{ℤ}
use lib.Dec.{T, nltb→le}
use lib.Ieee.{Float, nan, inf, fin, Format, prec, low, up, down, hid, top, size, of_bits, to_bits, fits, is_nan, lt, neg, below}
use lib.Ieee.Fits.{down_pos, neg-fits}
use lib.Ieee.Nearest.{div_same}
use Rattle.doubles.specs.Neighbour.{up_from, down_from, fmin, fmax, least4, greatest4}
use Rattle.doubles.specs.Value.{Number, ◌⊑◌}
use Rattle.doubles.proofs.TestFacts.{neg-neg}
use Rattle.doubles.proofs.Order.{⊑_trans}
use Rattle.doubles.proofs.Neighbour.{neg-lt, neg-nan}
use Rattle.doubles.proofs.Products.{number-neg}
use Rattle.doubles.proofs.Stepping.{up-nan}
use Rattle.doubles.proofs.Extremes.{Four, Over, larger, greatest, max-fits, max-number}
use Rattle.doubles.proofs.Opposite.{Opposed, size-pos, no_size, no_zero}

-- ---- a step from equal numbers
same-sizes : (s : Bool) (a : ℕ) (t : Bool) (b : ℕ) → T (not (below s a t b)) → T (not (below t b s a)) → (a ≡ b) × ((s ≡ t) ⊎ (a ≡ 0))
same-sizes false a false b h k = (le_antisymm (nltb→le b a k) (nltb→le a b h), inl refl)
same-sizes true a true b h k = (le_antisymm (nltb→le b a h) (nltb→le a b k), inl refl)
same-sizes false a true b h k = let l = nltb→le 0 (b + a) k in (omega arith, inr (omega arith))
same-sizes true a false b h k = let l = nltb→le 0 (a + b) h in (omega arith, inr (omega arith))

same_bits : (f : Format) (s : Bool) (m : ℕ) (e : ℤ) (n : ℕ) (d : ℤ) → m * up e * down d ≡ n * up d * down e → to_bits f (fin s m e) ≡ to_bits f (fin s n d)
unfolding to_bits
same_bits f s m e n d h =
    ap (λ (N : ℕ). cond s (top f) 0 + (size N - prec f) * hid f + N / 2 ^ (size N - prec f))
    (div_same (m * up e * 2 ^ low f) (down e) (n * up d * 2 ^ low f) (down d) (down_pos e) (down_pos d)
    (mul_right_comm (m * up e) (2 ^ low f) (down d) ∙ ap (λ (z : ℕ). z * 2 ^ low f) h ∙ mul_right_comm (n * up d) (down e) (2 ^ low f)))

pub up_same : (f : Format) (x y : Float) → Number x → Number y → x ⊑ y → y ⊑ x → up_from f x ≡ up_from f y
unfolding up_from lt is_nan
up_same f nan y n k h g = absurd n
up_same f (inf s) nan n k h g = absurd k
up_same f (inf true) (inf true) n k h g = refl
up_same f (inf true) (inf false) n k h g = absurd g
up_same f (inf false) (inf true) n k h g = absurd h
up_same f (inf false) (inf false) n k h g = refl
up_same f (inf true) (fin t b d) n k h g = absurd g
up_same f (inf false) (fin t b d) n k h g = absurd h
up_same f (fin s a e) nan n k h g = absurd k
up_same f (fin s a e) (inf true) n k h g = absurd h
up_same f (fin s a e) (inf false) n k h g = absurd g
up_same f (fin s zero e) (fin t zero d) n k h g = refl
up_same f (fin s zero e) (fin t (suc b) d) n k h g = absurd (no_size (up e) (down d) (suc b * up d * down e) (size-pos b d e) (same-sizes s (0 * up e * down d) t (suc b * up d * down e) g h).0)
up_same f (fin s (suc a) e) (fin t zero d) n k h g = absurd (no_size (up d) (down e) (suc a * up e * down d) (size-pos a e d) (sym (same-sizes s (suc a * up e * down d) t (0 * up d * down e) g h).0))
up_same f (fin s (suc a) e) (fin t (suc b) d) n k h g = go s t (same-sizes s (suc a * up e * down d) t (suc b * up d * down e) g h)
  where
    go : (s t : Bool) → (suc a * up e * down d ≡ suc b * up d * down e) × ((s ≡ t) ⊎ (suc a * up e * down d ≡ 0)) → up_from f (fin s (suc a) e) ≡ up_from f (fin t (suc b) d)
    go true true z = ap (λ (b : ℕ). of_bits f (b - 1)) (same_bits f true (suc a) e (suc b) d z.0)
    go false false z = ap (λ (b : ℕ). of_bits f (b + 1)) (same_bits f false (suc a) e (suc b) d z.0)
    go true false (z, inl p) = absurd (subst T p tt)
    go true false (z, inr p) = absurd (no_zero (suc a * up e * down d) (size-pos a e d) p)
    go false true (z, inl p) = absurd (subst T (sym p) tt)
    go false true (z, inr p) = absurd (no_zero (suc a * up e * down d) (size-pos a e d) p)

-- ---- the greatest of four, by what it is for
pub record Peak (p q r s m : Float) : Type 0 where
  pub number : Number m
  pub each : Four (Over m) p q r s
  pub least : (b : Float) → Four (Over b) p q r s → m ⊑ b

pub max-under : (a b m : Float) → a ⊑ m → b ⊑ m → fmax a b ⊑ m
max-under a b m h k = go (lt a b || is_nan a)
  where
    go : (c : Bool) → cond c b a ⊑ m
    go true = k
    go false = h

pub bottom : (m : Float) → inf true ⊑ m
unfolding lt
bottom nan = tt
bottom (inf true) = tt
bottom (inf false) = tt
bottom (fin s m e) = tt

pub peak : (f : Format) (p q r s : Float) → Four (λ x. T (fits f x)) p q r s → Four Number p q r s → Peak p q r s (greatest4 p q r s)
peak f p q r s h n =
    let g = greatest f p q r s h n in
    record {
      number = g.number;
      each = g.each;
      least = λ b k. max-under _ s b (max-under _ r b (max-under _ q b (max-under (inf true) p b (bottom b) k.one) k.two) k.three) k.four;
    }

-- a step from the greatest of four is one step, however it was found
pub peaks-up : (f : Format) (p q r s m w : Float) → Peak p q r s m → Peak p q r s w → up_from f m ≡ up_from f w
peaks-up f p q r s m w y z = up_same f m w y.number z.number (y.least w z.each) (z.least m y.each)

pub swapped : (P : Float → Type 0) (p q r s : Float) → Four P p r q s → Four P p q r s
swapped P p q r s z = record { one = z.one; two = z.three; three = z.two; four = z.four }

pub peak-swapped : (p q r s m : Float) → Peak p r q s m → Peak p q r s m
peak-swapped p q r s m z = record { number = z.number; each = swapped (Over m) p q r s z.each; least = λ b k. z.least b (swapped (Over b) p r q s k) }

-- ---- the sides of opposite numbers
turn-under : (x y : Float) → x ⊑ neg y → y ⊑ neg x
turn-under x y h = subst (λ (b : Bool). T (not b)) (sym (ap (lt (neg x)) (sym (neg-neg y)) ∙ neg-lt x (neg y))) h

pub turn-over : (x y : Float) → neg y ⊑ x → neg x ⊑ y
turn-over x y h = subst (λ (b : Bool). T (not b)) (sym (ap (λ (z : Float). lt z (neg x)) (sym (neg-neg y)) ∙ neg-lt (neg y) x)) h

-- the larger of two sizes
abbrev pub farthest : Float → Float → Float
farthest r s = fmax (fmax r (neg r)) (fmax s (neg s))

pub farthest-peak : (r s : Float) → Number r → Number s → Peak r (neg r) s (neg s) (farthest r s)
farthest-peak r s h k =
    let a = fmax r (neg r) in
    let b = fmax s (neg s) in
    let u = larger r (neg r) h (number-neg r h) in
    let v = larger s (neg s) k (number-neg s k) in
    let w = larger a b u.number v.number in
    record {
      number = w.number;
      each = record {
        one = ⊑_trans r a (fmax a b) u.number u.first w.first;
        two = ⊑_trans (neg r) a (fmax a b) u.number u.second w.first;
        three = ⊑_trans s b (fmax a b) v.number v.first w.second;
        four = ⊑_trans (neg s) b (fmax a b) v.number v.second w.second;
      };
      least = λ t z. max-under a b t (max-under r (neg r) t z.one z.two) (max-under s (neg s) t z.three z.four);
    }

pub farthest-up : (f : Format) (r s : Float) → T (fits f r) → T (fits f s) → is_nan r ≡ false → is_nan (up_from f (farthest r s)) ≡ false
farthest-up f r s h k n =
    up-nan f (farthest r s) (max-fits f _ _ (max-fits f r (neg r) h (neg-fits f r h)) (max-fits f s (neg s) k (neg-fits f s k))) ∙ max-number _ _ (max-number r (neg r) n)

module _ (p q r s : Float) (n : Four Number p q r s) (a : Opposed p r) (b : Opposed q s) where
  -- what lies over the opposites lies over the four
  peak-turned : (m : Float) → Peak (neg p) (neg q) (neg r) (neg s) m → Peak p q r s m
  peak-turned m z =
      record {
        number = z.number;
        each = record {
          one = ⊑_trans p (neg r) m (number-neg r n.three) a.under z.each.three;
          two = ⊑_trans q (neg s) m (number-neg s n.four) b.under z.each.four;
          three = ⊑_trans r (neg p) m (number-neg p n.one) (turn-under p r a.under) z.each.one;
          four = ⊑_trans s (neg q) m (number-neg q n.two) (turn-under q s b.under) z.each.two;
        };
        least = λ t k. z.least t (record {
          one = ⊑_trans (neg p) r t n.three (turn-over p r a.over) k.three;
          two = ⊑_trans (neg q) s t n.four (turn-over q s b.over) k.four;
          three = ⊑_trans (neg r) p t n.one a.over k.one;
          four = ⊑_trans (neg s) q t n.two b.over k.two;
        });
      }

  peak-paired : (m : Float) → Peak p q r s m → Peak r (neg r) s (neg s) m
  peak-paired m z =
      record {
        number = z.number;
        each = record {
          one = z.each.three;
          two = ⊑_trans (neg r) p m n.one a.over z.each.one;
          three = z.each.four;
          four = ⊑_trans (neg s) q m n.two b.over z.each.two;
        };
        least = λ t k. z.least t (record {
          one = ⊑_trans p (neg r) t (number-neg r n.three) a.under k.two;
          two = ⊑_trans q (neg s) t (number-neg s n.four) b.under k.four;
          three = k.one;
          four = k.three;
        });
      }

  peak-up : (f : Format) (m : Float) → Peak p q r s m → up_from f m ≡ up_from f (farthest r s)
  peak-up f m z = peaks-up f r (neg r) s (neg s) m (farthest r s) (peak-paired m z) (farthest-peak r s n.three n.four)

-- the least of four is the opposite of the greatest of their opposites
neg-min : (a b : Float) → neg (fmin a b) ≡ fmax (neg a) (neg b)
neg-min a b = rw (neg-lt a b, neg-nan a) (go (lt b a || is_nan a))
  where
    go : (c : Bool) → neg (cond c b a) ≡ cond c (neg b) (neg a)
    go true = refl
    go false = refl

neg-top : neg (inf false) ≡ inf true
unfolding neg
neg-top = refl

pub neg-least : (p q r s : Float) → neg (least4 p q r s) ≡ greatest4 (neg p) (neg q) (neg r) (neg s)
neg-least p q r s =
    neg-min _ s
    ∙ ap
    (λ (z : Float). fmax z (neg s))
    (neg-min _ r ∙ ap (λ (z : Float). fmax z (neg r)) (neg-min _ q ∙ ap (λ (z : Float). fmax z (neg q)) (neg-min (inf false) p ∙ ap (λ (z : Float). fmax z (neg p)) neg-top)))

-- ---- both ends
module _ (f : Format) (p q r s : Float) (h : Four (λ x. T (fits f x)) p q r s) (n : Four Number p q r s) (a : Opposed p r) (b : Opposed q s) where
  abbrev Ends : Float → Float → Type 0
  Ends l g = (down_from f l ≡ neg (up_from f (farthest r s))) × (up_from f g ≡ up_from f (farthest r s))

  low_end : (l m : Float) → neg l ≡ m → Peak (neg p) (neg q) (neg r) (neg s) m → down_from f l ≡ neg (up_from f (farthest r s))
  unfolding down_from
  low_end l m e z = ap (λ (v : Float). neg (up_from f v)) e ∙ ap neg (peak-up p q r s n a b f m (peak-turned p q r s n a b m z))

  fits_neg : Four (λ x. T (fits f x)) (neg p) (neg q) (neg r) (neg s)
  fits_neg = record { one = neg-fits f p h.one; two = neg-fits f q h.two; three = neg-fits f r h.three; four = neg-fits f s h.four }

  numbers-neg : Four Number (neg p) (neg q) (neg r) (neg s)
  numbers-neg = record { one = number-neg p n.one; two = number-neg q n.two; three = number-neg r n.three; four = number-neg s n.four }

  pub ends : Ends (least4 p q r s) (greatest4 p q r s)
  ends = (low_end (least4 p q r s) _ (neg-least p q r s) (peak f _ _ _ _ fits_neg numbers-neg), peak-up p q r s n a b f _ (peak f p q r s h n))

  -- the same four in the order of the other operand
  pub ends-swapped : Ends (least4 p r q s) (greatest4 p r q s)
  ends-swapped =
      let k = swapped (λ x. T (fits f x)) p r q s h in (
        low_end
            (least4 p r q s) _ (neg-least p r q s)
            (peak-swapped _ _ _ _ _ (peak f _ _ _ _ (swapped (λ x. T (fits f x)) (neg p) (neg r) (neg q) (neg s) fits_neg) (swapped Number (neg p) (neg r) (neg q) (neg s) numbers-neg))),
        peak-up p q r s n a b f _ (peak-swapped p q r s _ (peak f p r q s k (swapped Number p r q s n))),
      )
