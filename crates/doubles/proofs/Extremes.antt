-- The smaller and the larger of two doubles that are no NaN, and of four. Assumes nothing.
use mathlib.Core.Path.{◌≡◌, refl, sym, ap, ◌∙◌}
use mathlib.Core.Bool.{Bool, true, false, not, ◌||◌, cond}
use lib.Dec.{T, not_T}
use lib.Ieee.{Float, nan, inf, fin, Format, fits, is_nan, lt}
use lib.Ieee.Fits.{inf-fits, cond-fits}
use lib.Ieee.Bits.{is_false}
use Rattle.doubles.specs.Value.{Number, ◌⊑◌}
use Rattle.doubles.specs.Neighbour.{fmin, fmax, least4, greatest4}
use Rattle.doubles.proofs.TestFacts.{Tn-of}
use Rattle.doubles.proofs.Order.{⊑_trans, lt_trans, lt_irrefl, lt-asym, lt-left, lt-right}

-- m is no NaN, and stands in the relation R to both
pub record Picked (R : Float → Float → Type 0) (a b m : Float) : Type 0 where
  pub number : Number m
  pub first : R m a
  pub second : R m b

abbrev pub Under : Float → Float → Type 0
Under m x = m ⊑ x

abbrev pub Over : Float → Float → Type 0
Over m x = x ⊑ m

module _ (a b : Float) (na : Number a) (nb : Number b) where
  pub smaller : Picked Under a b (fmin a b)
  smaller = go (lt b a) (is_nan a) na (lt-asym b a) (not_T (lt b a))
    where
      go : (k n : Bool) → T (not n) → (T k → b ⊑ a) → ((T k → ⊥) → a ⊑ b) → Picked Under a b (cond (k || n) b a)
      go true n e h g = record { number = nb; first = h tt; second = lt_irrefl b }
      go false true e h g = absurd e
      go false false e h g = record { number = na; first = lt_irrefl a; second = g (λ t. t) }

  pub larger : Picked Over a b (fmax a b)
  larger = go (lt a b) (is_nan a) na (lt-asym a b) (not_T (lt a b))
    where
      go : (k n : Bool) → T (not n) → (T k → a ⊑ b) → ((T k → ⊥) → b ⊑ a) → Picked Over a b (cond (k || n) b a)
      go true n e h g = record { number = nb; first = h tt; second = lt_irrefl b }
      go false true e h g = absurd e
      go false false e h g = record { number = na; first = lt_irrefl a; second = g (λ t. t) }

-- the choice is no NaN where the first is none
picked-number : (a b : Float) (k n : Bool) → Number a → T (not n) → (T k → Number b) → Number (cond (k || n) b a)
picked-number a b true n h e g = g tt
picked-number a b false true h e g = absurd e
picked-number a b false false h e g = h

module _ (a b : Float) (h : is_nan a ≡ false) where
  pub min-number : is_nan (fmin a b) ≡ false
  min-number = is_false (is_nan (fmin a b)) (picked-number a b (lt b a) (is_nan a) (Tn-of (is_nan a) h) (Tn-of (is_nan a) h) (lt-left b a))

  pub max-number : is_nan (fmax a b) ≡ false
  max-number = is_false (is_nan (fmax a b)) (picked-number a b (lt a b) (is_nan a) (Tn-of (is_nan a) h) (Tn-of (is_nan a) h) (lt-right a b))

-- a fold's first step takes the number
pub min-first : (p : Float) → Number p → fmin (inf false) p ≡ p
unfolding lt is_nan
min-first nan n = absurd n
min-first (inf true) n = refl
min-first (inf false) n = refl
min-first (fin s m e) n = refl

pub max-first : (p : Float) → Number p → fmax (inf true) p ≡ p
unfolding lt is_nan
max-first nan n = absurd n
max-first (inf true) n = refl
max-first (inf false) n = refl
max-first (fin s m e) n = refl

-- ---- the first of the best, in any order of asking
module _ (R : Float → Float → Bool) where
  abbrev pick : Float → Float → Float
  pick a b = cond (R b a || is_nan a) b a

  picks : (x y z : Float) → is_nan x ≡ false → is_nan y ≡ false → (T (R z y) → T (R y x) → T (R z x)) → (T (not (R y x)) → T (not (R z y)) → T (not (R z x))) → pick x (pick y z) ≡ pick (pick x y) z
  picks x y z n m h g = rw (n, m) (go (R y x) (R z y) (R z x) refl refl refl h g)
    where
      go : (k l w : Bool) → R y x ≡ k → R z y ≡ l → R z x ≡ w → (T l → T k → T w) → (T (not k) → T (not l) → T (not w))
          → cond (R (cond (l || false) z y) x || false) (cond (l || false) z y) x ≡ pick (cond (k || false) y x) z
      go true true true a b c h g = rw (m, b, c)
      go true true false a b c h g = absurd (h tt tt)
      go true false w a b c h g = rw (m, a, b)
      go false true w a b c h g = rw n
      go false false true a b c h g = absurd (g tt tt)
      go false false false a b c h g = rw (n, a, c)

min-picks : (x y z : Float) → is_nan x ≡ false → is_nan y ≡ false → fmin x (fmin y z) ≡ fmin (fmin x y) z
min-picks x y z n m = picks (λ b a. lt b a) x y z n m (lt_trans z y x) (λ h k. ⊑_trans x y z (Tn-of _ m) h k)

max-picks : (x y z : Float) → is_nan x ≡ false → is_nan y ≡ false → fmax x (fmax y z) ≡ fmax (fmax x y) z
max-picks x y z n m = picks (λ b a. lt a b) x y z n m (λ h k. lt_trans x y z k h) (λ h k. ⊑_trans z y x (Tn-of _ m) k h)

-- ---- of four
pub record Four (P : Float → Type 0) (p q r s : Float) : Type 0 where
  pub one : P p
  pub two : P q
  pub three : P r
  pub four : P s

module _ (p q r s : Float) (n : Four (λ x. is_nan x ≡ false) p q r s) where
  pub least-pairs : fmin (fmin p q) (fmin r s) ≡ least4 p q r s
  least-pairs = min-picks (fmin p q) r s (min-number p q n.one) n.three ∙ sym (ap (λ (x : Float). fmin (fmin (fmin x q) r) s) (min-first p (Tn-of _ n.one)))

  pub greatest-pairs : fmax (fmax p q) (fmax r s) ≡ greatest4 p q r s
  greatest-pairs = max-picks (fmax p q) r s (max-number p q n.one) n.three ∙ sym (ap (λ (x : Float). fmax (fmax (fmax x q) r) s) (max-first p (Tn-of _ n.one)))

pub record Best (f : Format) (R : Float → Float → Type 0) (p q r s m : Float) : Type 0 where
  pub held : T (fits f m)
  pub number : Number m
  pub each : Four (R m) p q r s

-- a fold that picks one of two each time
module _ (f : Format) (R : Float → Float → Type 0) (trans : (x y z : Float) → Number y → R x y → R y z → R x z) (pick : Float → Float → Float)
    (kept : (a b : Float) → T (fits f a) → T (fits f b) → T (fits f (pick a b)))
    (picked : (a b : Float) → Number a → Number b → Picked R a b (pick a b))
    (o p q r s : Float) (ho : T (fits f o)) (no : Number o) (h : Four (λ x. T (fits f x)) p q r s) (n : Four Number p q r s) where
  of_four : Best f R p q r s (pick (pick (pick (pick o p) q) r) s)
  of_four =
      let a = picked o p no n.one in
      let b = picked (pick o p) q a.number n.two in
      let c = picked (pick (pick o p) q) r b.number n.three in
      let d = picked (pick (pick (pick o p) q) r) s c.number n.four in
      let to-b = trans _ _ _ c.number d.first c.first in
      let to-a = trans _ _ _ b.number to-b b.first in
      record {
        held = kept _ s (kept _ r (kept _ q (kept o p ho h.one) h.two) h.three) h.four;
        number = d.number;
        each = record {
          one = trans _ _ _ a.number to-a a.second;
          two = trans _ _ _ b.number to-b b.second;
          three = trans _ _ _ c.number d.first c.second;
          four = d.second;
        };
      }

inf-number : (s : Bool) → Number (inf s)
unfolding is_nan
inf-number s = tt

pub min-fits : (f : Format) (a b : Float) → T (fits f a) → T (fits f b) → T (fits f (fmin a b))
min-fits f a b h k = cond-fits f (lt b a || is_nan a) b a k h

pub max-fits : (f : Format) (a b : Float) → T (fits f a) → T (fits f b) → T (fits f (fmax a b))
max-fits f a b h k = cond-fits f (lt a b || is_nan a) b a k h

module _ (f : Format) (p q r s : Float) (h : Four (λ x. T (fits f x)) p q r s) (n : Four Number p q r s) where
  pub least : Best f Under p q r s (least4 p q r s)
  least = of_four f Under ⊑_trans fmin (min-fits f) smaller (inf false) p q r s (inf-fits f false) (inf-number false) h n

  pub greatest : Best f Over p q r s (greatest4 p q r s)
  greatest = of_four f Over (λ x y z k a b. ⊑_trans z y x k b a) fmax (max-fits f) larger (inf true) p q r s (inf-fits f true) (inf-number true) h n
