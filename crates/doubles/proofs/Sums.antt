-- What + and * round, and the ends of a sum: one step outward from the rounded sum of two ends lies beyond the exact sum. An infinite end sets no limit. Assumes nothing.
use mathlib.Core.Path.{◌≡◌, refl, sym, ap, ◌∙◌, subst}
use mathlib.Core.List.{[], ◌∷◌}
use Prim.Native.Nat.{ℕ, ◌+◌, ◌-◌, ◌*◌, pred, ◌≤◌, ◌<◌}
use native.Mathlib.Nat.{mul-pos}
use native.Mathlib.Omega.{arith}
use mathlib.Core.Bool.{Bool, true, false, not, cond}
use lib.IntN.{ℤ, pos}
use lib.Dec.{T, ltb, ltb→lt, nltb→le}
use lib.Ieee.{Float, nan, inf, fin, Format, up, down, round, sum, add, sub, mul, fits, neg}
use lib.Ieee.Fits.{down_pos, add-fits}
use Rattle.ring.specs.Int.{◌⊞◌, ⊟◌}
use Rattle.ring.proofs.Solver.{zring, z-ring}
use Rattle.exact.specs.Rational.{ℚ, frac, ◌+q◌, ◌-q◌, ◌*q◌, negq, ◌≤q◌}
use Rattle.exact.proofs.Field.{≤_trans, ≤-eq, +-mono, sub_is}
use Rattle.doubles.specs.Value.{signed, ratio, val, Lower, Upper, Number, ◌⊑◌}
use Rattle.doubles.specs.Neighbour.{up_from, down_from}
use Rattle.doubles.proofs.Value.{minus_is, val_is, ratio-add, ratio-mul}
use Rattle.doubles.proofs.Order.{lt_irrefl}
use Rattle.doubles.proofs.Enclose.{lower-le, upper-le, lower-neg, upper-neg, round-lower, round-upper, round_number}

-- r is the fraction q, rounded
pub record Rounded (f : Format) (r : Float) (q : ℚ) : Type 0 where
  pub sign : Bool
  pub num : ℕ
  pub den : ℕ
  pub proper : 0 < den
  pub made : r ≡ round f sign num den
  pub worth : ratio sign num den ≡ q

-- ---- a sum of signed whole numbers over one denominator
plus : (a b : ℕ) → pos (a + b) ≡ pos a ⊞ pos b
unfolding ◌⊞◌
plus a b = refl

take-away : (a b : ℕ) → b ≤ a → pos (a - b) ≡ pos a ⊞ ⊟ pos b
take-away a b h =
    let e : a ≡ a - b + b = omega arith in
    sym (ap (λ (n : ℕ). pos n ⊞ ⊟ pos b) e ∙ ap (λ (z : ℤ). z ⊞ ⊟ pos b) (plus (a - b) b) ∙ out (pos (a - b)) (pos b))
  where
    out : (x y : ℤ) → x ⊞ y ⊞ ⊟ y ≡ x
    out x y = z-ring (x ∷ y ∷ []) (search zring depth 20) tt

both-minus : (x y : ℤ) → ⊟ (x ⊞ y) ≡ ⊟ x ⊞ ⊟ y
both-minus x y = z-ring (x ∷ y ∷ []) (search zring depth 20) tt

turned : (x y : ℤ) → ⊟ (y ⊞ ⊟ x) ≡ x ⊞ ⊟ y
turned x y = z-ring (x ∷ y ∷ []) (search zring depth 20) tt

flipped : (x y : ℤ) → x ⊞ ⊟ y ≡ ⊟ y ⊞ x
flipped x y = z-ring (x ∷ y ∷ []) (search zring depth 20) tt

module _ (f : Format) (a b c : ℕ) (C : 0 < c) where
  by-num : (s : Bool) (n : ℕ) (z : ℤ) → signed s n ≡ z → Rounded f (round f s n c) (frac z (pred c))
  unfolding ratio
  by-num s n z e = record { sign = s; num = n; den = c; proper = C; made = refl; worth = ap (λ (y : ℤ). frac y (pred c)) e }

  pub sum-rounded : (s t : Bool) → Rounded f (sum f s a t b c) (frac (signed s a ⊞ signed t b) (pred c))
  unfolding sum
  sum-rounded false false = by-num false (a + b) _ (plus a b)
  sum-rounded true true = by-num true (a + b) _ (minus_is (a + b) ∙ ap ⊟◌ (plus a b) ∙ both-minus (pos a) (pos b) ∙ sym (rw (minus_is a, minus_is b)))
  sum-rounded false true = go (ltb a b) (ltb→lt a b) (nltb→le a b)
    where
      go : (k : Bool) → (T k → a < b) → (T (not k) → b ≤ a) → Rounded f (cond k (round f true (b - a) c) (round f false (a - b) c)) (frac (pos a ⊞ signed true b) (pred c))
      go true h n =
          let l = h tt in
          by-num true (b - a) _ (minus_is (b - a) ∙ ap ⊟◌ (take-away b a (omega arith)) ∙ turned (pos a) (pos b) ∙ ap (λ (z : ℤ). pos a ⊞ z) (sym (minus_is b)))
      go false h n = by-num false (a - b) _ (take-away a b (n tt) ∙ ap (λ (z : ℤ). pos a ⊞ z) (sym (minus_is b)))
  sum-rounded true false = go (ltb a b) (ltb→lt a b) (nltb→le a b) (ltb b a) (nltb→le b a)
    where
      swap : pos b ⊞ ⊟ pos a ≡ signed true a ⊞ pos b
      swap = flipped (pos b) (pos a) ∙ ap (λ (z : ℤ). z ⊞ pos b) (sym (minus_is a))

      go : (k : Bool) → (T k → a < b) → (T (not k) → b ≤ a) → (j : Bool) → (T (not j) → a ≤ b)
          → Rounded f (cond k (round f false (b - a) c) (round f j (a - b) c)) (frac (signed true a ⊞ pos b) (pred c))
      go true h n j m = let l = h tt in by-num false (b - a) _ (take-away b a (omega arith) ∙ swap)
      go false h n true m = by-num true (a - b) _ (minus_is (a - b) ∙ ap ⊟◌ (take-away a b (n tt)) ∙ turned (pos b) (pos a) ∙ swap)
      go false h n false m =
          let l = n tt in
          let o = m tt in
          let e : a - b ≡ b - a = omega arith in
          by-num false (a - b) _ (ap pos e ∙ take-away b a o ∙ swap)

pub add-rounded : (f : Format) (s : Bool) (m : ℕ) (e : ℤ) (t : Bool) (n : ℕ) (d : ℤ) → Rounded f (add f (fin s m e) (fin t n d)) (val (fin s m e) +q val (fin t n d))
unfolding add
add-rounded f s m e t n d =
    rw (val_is s m e, val_is t n d, ratio-add s (m * up e) (down e) t (n * up d) (down d) (down_pos e) (down_pos d))
    (sum-rounded f (m * up e * down d) (n * up d * down e) (down e * down d) (mul-pos (down_pos e) (down_pos d)) s t)

pub mul-rounded : (f : Format) (s : Bool) (m : ℕ) (e : ℤ) (t : Bool) (n : ℕ) (d : ℤ) → Rounded f (mul f (fin s m e) (fin t n d)) (val (fin s m e) *q val (fin t n d))
unfolding mul
mul-rounded f s m e t n d =
    record {
      sign = _;
      num = _;
      den = _;
      proper = mul-pos (down_pos e) (down_pos d);
      made = refl;
      worth = sym (rw (val_is s m e, val_is t n d) (ratio-mul s (m * up e) (down e) t (n * up d) (down d) (down_pos e) (down_pos d)));
    }

-- ---- what is rounded, one step outward
module _ (f : Format) {r : Float} {q : ℚ} (z : Rounded f r q) where
  pub rounded-number : Number r
  rounded-number = subst Number (sym z.made) (round_number f z.sign z.num z.den)

  module _ (m : Float) (h : T (fits f m)) (n : Number m) where
    pub rounded-lower : {p : ℚ} → m ⊑ r → q ≤q p → Lower (down_from f m) p
    rounded-lower g k = lower-le (down_from f m) (round-lower f m z.sign z.num z.den z.proper h n (subst (λ (v : Float). m ⊑ v) z.made g)) (≤_trans (≤-eq z.worth) k)

    pub rounded-upper : {p : ℚ} → r ⊑ m → p ≤q q → Upper (up_from f m) p
    rounded-upper g k = upper-le (up_from f m) (round-upper f m z.sign z.num z.den z.proper h n (subst (λ (v : Float). v ⊑ m) z.made g)) (≤_trans k (≤-eq (sym z.worth)))

-- ---- a sum's ends
pub down-low : (f : Format) (q : ℚ) → Lower (down_from f (inf true)) q
unfolding down_from up_from neg
down-low f q = tt

pub up-high : (f : Format) (q : ℚ) → Upper (up_from f (inf false)) q
unfolding up_from
up-high f q = tt

pub sum-lower : (f : Format) (x y : Float) (p q : ℚ) → Lower x p → Lower y q → Lower (down_from f (add f x y)) (p +q q)
unfolding add
sum-lower f nan y p q h k = absurd h
sum-lower f (inf true) nan p q h k = absurd k
sum-lower f (inf true) (inf true) p q h k = down-low f (p +q q)
sum-lower f (inf true) (inf false) p q h k = absurd k
sum-lower f (inf true) (fin t n d) p q h k = down-low f (p +q q)
sum-lower f (inf false) y p q h k = absurd h
sum-lower f (fin s m e) nan p q h k = absurd k
sum-lower f (fin s m e) (inf true) p q h k = down-low f (p +q q)
sum-lower f (fin s m e) (inf false) p q h k = absurd k
sum-lower f (fin s m e) (fin t n d) p q h k =
    let r = add f (fin s m e) (fin t n d) in
    let z = add-rounded f s m e t n d in
    rounded-lower f z r (add-fits f (fin s m e) (fin t n d)) (rounded-number f z) (lt_irrefl r) (+-mono h k)

pub sum-upper : (f : Format) (x y : Float) (p q : ℚ) → Upper x p → Upper y q → Upper (up_from f (add f x y)) (p +q q)
unfolding add
sum-upper f nan y p q h k = absurd h
sum-upper f (inf false) nan p q h k = absurd k
sum-upper f (inf false) (inf false) p q h k = up-high f (p +q q)
sum-upper f (inf false) (inf true) p q h k = absurd k
sum-upper f (inf false) (fin t n d) p q h k = up-high f (p +q q)
sum-upper f (inf true) y p q h k = absurd h
sum-upper f (fin s m e) nan p q h k = absurd k
sum-upper f (fin s m e) (inf false) p q h k = up-high f (p +q q)
sum-upper f (fin s m e) (inf true) p q h k = absurd k
sum-upper f (fin s m e) (fin t n d) p q h k =
    let r = add f (fin s m e) (fin t n d) in
    let z = add-rounded f s m e t n d in
    rounded-upper f z r (add-fits f (fin s m e) (fin t n d)) (rounded-number f z) (lt_irrefl r) (+-mono h k)

pub sub-lower : (f : Format) (x y : Float) (p q : ℚ) → Lower x p → Upper y q → Lower (down_from f (sub f x y)) (p -q q)
unfolding sub
sub-lower f x y p q h k = rw (sub_is p q) (sum-lower f x (neg y) p (negq q) h (lower-neg y q k))

pub sub-upper : (f : Format) (x y : Float) (p q : ℚ) → Upper x p → Lower y q → Upper (up_from f (sub f x y)) (p -q q)
unfolding sub
sub-upper f x y p q h k = rw (sub_is p q) (sum-upper f x (neg y) p (negq q) h (upper-neg y q k))
