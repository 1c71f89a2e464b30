-- [-|s|, |s|] is an interval that holds 0, and both s and -s where s is a number; a NaN makes it the whole line. Assumes nothing.
use Rattle.std.proofs.Common.{◌≡◌, ℕ, ◌*◌, ◌≤◌, Bool, true, false, cond, not, T, sym, refl, subst, arith}
use lib.Arith.{le→nltb}
use lib.Ieee.{Float, nan, inf, fin, up, down, neg, lt, le, eq, is_nan}
use lib.Ieee.Fits.{and_i}
use Rattle.doubles.specs.Neighbour.{fabs}
use Rattle.doubles.specs.Value.{Number, zero+, ◌⊑◌}
use Rattle.doubles.proofs.TestFacts.{Tn-of, neg-neg}
use Rattle.doubles.proofs.Order.{le_is, ⊑_trans}
use Rattle.doubles.proofs.Products.{number-neg}
use Rattle.doubles.proofs.Symmetric.{turn-over}
use Rattle.doubles.proofs.Sizes.{abs-number, over-abs}
use Rattle.interval.specs.declared.Interval.{Interval}
use Rattle.interval.specs.Ops.{entire, contains_of, opposites_of, symmetric_of}

pub record Around (i : Interval) (s : Float) : Type 0 where
  pub ordered : T (le i.lo i.hi)
  pub zero : T (contains_of i zero+)
  pub itself : Number s → T (contains_of i s)
  pub opposite : Number s → T (contains_of i (neg s))

le_of : (x y : Float) → Number x → Number y → x ⊑ y → T (le x y)
le_of x y n k h = subst T (sym (le_is x y n k)) h

zero_number : Number zero+
unfolding is_nan
zero_number = tt

zero-under : (x : Float) → (zero+ ⊑ fabs x) × (neg (fabs x) ⊑ zero+)
unfolding lt neg
zero-under nan = (tt, tt)
zero-under (inf s) = (tt, tt)
zero-under (fin s m e) = (le→nltb (m * up e * 1) (0 * 1 * down e) (none (down e) (m * up e * 1)), tt)
  where
    none : (d n : ℕ) → 0 * 1 * d ≤ n
    none d n = omega arith

module _ (s : Float) (n : Number s) where
  abbrev m : Float
  m = fabs s

  high : Number m
  high = abs-number s n

  low : Number (neg m)
  low = number-neg m high

  held : (x : Float) → Number x → neg m ⊑ x → x ⊑ m → T (contains_of (opposites_of m) x)
  unfolding contains_of
  held x k l h = and_i (le (neg m) x) (le x m) (le_of (neg m) x low k l) (le_of x m k high h)

  number-around : Around (opposites_of m) s
  number-around =
      let z = zero-under s in
      record {
        ordered = le_of (neg m) m low high (⊑_trans (neg m) zero+ m zero_number z.1 z.0);
        zero = held zero+ zero_number z.1 z.0;
        itself = λ k. held s k (turn-over m s (over-abs s).1) (over-abs s).0;
        opposite = λ k. held (neg s) (number-neg s k) (turn-over m (neg s) (subst (λ (x : Float). x ⊑ m) (sym (neg-neg s)) (over-abs s).0)) (over-abs s).1;
      }

whole : (s : Float) → is_nan s ≡ true → Around entire s
unfolding contains_of le lt eq
whole s e =
    let none : Number s → ⊥ = λ k. subst (λ (b : Bool). T (not b)) e k in
    record { ordered = tt; zero = tt; itself = λ k. absurd (none k); opposite = λ k. absurd (none k) }

pub symmetric-around : (s : Float) → Around (symmetric_of s) s
unfolding symmetric_of
symmetric-around s = go (is_nan s) refl
  where
    go : (b : Bool) → is_nan s ≡ b → Around (cond b entire (opposites_of (fabs s))) s
    go true e = whole s e
    go false e = number-around s (Tn-of _ e)
