-- The order of doubles. `⊑` is the `≤` of numbers: `<` the other way round fails. All holds of infinities too; finite doubles are compared as the fractions that they are. Assumes nothing.
use mathlib.Core.Path.{◌≡◌, refl, sym, subst}
use mathlib.Core.Logic.{◌⊎◌, inl, inr}
use Prim.Native.Nat.{ℕ, ◌+◌, ◌*◌, ◌≤◌, ◌<◌}
use native.Mathlib.Nat.{le_of_eq, le_of_lt, eq-or-lt_of_le}
use native.Mathlib.Omega.{arith}
use mathlib.Core.Bool.{Bool, true, false, not, ◌||◌, beq}
use lib.Dec.{T, T_not, not_T, ltb, eqb, eqb→eq, ltb→lt, lt→ltb, nltb→le}
use lib.Arith.{le→nltb}
use lib.Ieee.{Float, nan, inf, fin, up, down, is_nan, lt, eq, le, below, level}
use lib.Ieee.Scale.{finite}
use lib.Ieee.Fits.{and_l, and_r, and_i, eq→eqb}
use Rattle.exact.specs.Rational.{◌≤q◌}
use Rattle.exact.proofs.Field.{≤-refl, ≤-antisym, <-≤-trans, lt→le}
use Rattle.doubles.specs.Value.{val, Number, ◌⊑◌}
use Rattle.doubles.proofs.TestFacts.{yes_or_no, same_test, or_r, or_split}
use Rattle.doubles.proofs.Value.{val-lt, val-le, lt_val, le_val}

-- ---- what `<` says of its sides
pub lt-left : (x y : Float) → T (lt x y) → T (not (is_nan x))
unfolding lt is_nan
lt-left nan y h = absurd h
lt-left (inf s) y h = tt
lt-left (fin s m e) y h = tt

pub lt-right : (x y : Float) → T (lt x y) → T (not (is_nan y))
unfolding lt is_nan
lt-right nan y h = absurd h
lt-right (inf s) nan h = absurd h
lt-right (inf s) (inf t) h = tt
lt-right (inf s) (fin t n d) h = tt
lt-right (fin s m e) nan h = absurd h
lt-right (fin s m e) (inf t) h = tt
lt-right (fin s m e) (fin t n d) h = tt

pub lt-top : (x y : Float) → T (lt x y) → T (lt x (inf false))
unfolding lt
lt-top nan y h = absurd h
lt-top (inf true) y h = tt
lt-top (inf false) nan h = absurd h
lt-top (inf false) (inf t) h = absurd h
lt-top (inf false) (fin t n d) h = absurd h
lt-top (fin s m e) y h = tt

pub finite_number : (x : Float) → T (finite x) → Number x
unfolding is_nan
finite_number nan h = absurd h
finite_number (inf s) h = absurd h
finite_number (fin s m e) h = tt

-- ---- the laws
pub lt_irrefl : (x : Float) → x ⊑ x
lt_irrefl nan = unfold lt in tt
lt_irrefl (inf true) = unfold lt in tt
lt_irrefl (inf false) = unfold lt in tt
lt_irrefl (fin s m e) = le_val (fin s m e) (fin s m e) tt tt (≤-refl (val (fin s m e)))

pub lt-asym : (x y : Float) → T (lt x y) → x ⊑ y
lt-asym nan y h = absurd (unfold lt in h)
lt-asym (inf s) nan h = absurd (unfold lt in h)
lt-asym (inf true) (inf true) h = unfold lt in tt
lt-asym (inf true) (inf false) h = unfold lt in tt
lt-asym (inf false) (inf t) h = absurd (unfold lt in h)
lt-asym (inf true) (fin t n d) h = unfold lt in tt
lt-asym (inf false) (fin t n d) h = absurd (unfold lt in h)
lt-asym (fin s m e) nan h = absurd (unfold lt in h)
lt-asym (fin s m e) (inf true) h = absurd (unfold lt in h)
lt-asym (fin s m e) (inf false) h = unfold lt in tt
lt-asym (fin s m e) (fin t n d) h = le_val (fin t n d) (fin s m e) tt tt (lt→le (val-lt (fin s m e) (fin t n d) tt tt h))

pub lt-⊑ : (x y z : Float) → Number z → T (lt x y) → y ⊑ z → T (lt x z)
lt-⊑ nan y z n h k = absurd (unfold lt in h)
lt-⊑ (inf false) nan z n h k = absurd (unfold lt in h)
lt-⊑ (inf false) (inf t) z n h k = absurd (unfold lt in h)
lt-⊑ (inf false) (fin t m d) z n h k = absurd (unfold lt in h)
lt-⊑ (inf true) y nan n h k = absurd (unfold is_nan in n)
lt-⊑ (inf true) nan (inf true) n h k = absurd (unfold lt in h)
lt-⊑ (inf true) (inf true) (inf true) n h k = absurd (unfold lt in h)
lt-⊑ (inf true) (inf false) (inf true) n h k = absurd (unfold lt in k)
lt-⊑ (inf true) (fin t m d) (inf true) n h k = absurd (unfold lt in k)
lt-⊑ (inf true) y (inf false) n h k = unfold lt in tt
lt-⊑ (inf true) y (fin u q r) n h k = unfold lt in tt
lt-⊑ (fin s m e) nan z n h k = absurd (unfold lt in h)
lt-⊑ (fin s m e) (inf true) z n h k = absurd (unfold lt in h)
lt-⊑ (fin s m e) (inf false) nan n h k = absurd (unfold is_nan in n)
lt-⊑ (fin s m e) (inf false) (inf true) n h k = absurd (unfold lt in k)
lt-⊑ (fin s m e) (inf false) (inf false) n h k = unfold lt in tt
lt-⊑ (fin s m e) (inf false) (fin u q r) n h k = absurd (unfold lt in k)
lt-⊑ (fin s m e) (fin t p d) nan n h k = absurd (unfold is_nan in n)
lt-⊑ (fin s m e) (fin t p d) (inf true) n h k = absurd (unfold lt in k)
lt-⊑ (fin s m e) (fin t p d) (inf false) n h k = unfold lt in tt
lt-⊑ (fin s m e) (fin t p d) (fin u q r) n h k =
    let x = fin s m e in
    let y = fin t p d in
    let z = fin u q r in
    lt_val x z tt tt (<-≤-trans (val-lt x y tt tt h) (val-le z y tt tt k))

pub ⊑-lt : (x y z : Float) → Number x → x ⊑ y → T (lt y z) → T (lt x z)
⊑-lt x y z n h k = elim (yes_or_no (lt x z)) [ inl t ↦ t | inr t ↦ absurd (T_not (lt y x) h (lt-⊑ y z x n k t)) ]

pub ⊑_trans : (x y z : Float) → Number y → x ⊑ y → y ⊑ z → x ⊑ z
⊑_trans x y z n h k = not_T (lt z x) (λ t. T_not (lt z y) k (lt-⊑ z x y n t h))

pub lt_trans : (x y z : Float) → T (lt x y) → T (lt y z) → T (lt x z)
lt_trans x y z h k = lt-⊑ x y z (lt-right y z k) h (lt-asym y z k)

-- ---- `<=` is that `<` the other way round fails
below-asym : (s : Bool) (a : ℕ) (t : Bool) (b : ℕ) → T (below s a t b) → T (not (below t b s a))
below-asym false a false b h = le→nltb b a (le_of_lt (ltb→lt a b h))
below-asym false a true b h = absurd h
below-asym true a false b h = tt
below-asym true a true b h = le→nltb a b (le_of_lt (ltb→lt b a h))

level-not : (s : Bool) (a : ℕ) (t : Bool) (b : ℕ) → T (level s a t b) → T (not (below t b s a))
level-not false a false b h = le→nltb b a (le_of_eq (eqb→eq a b (and_l (eqb a b) (true || eqb a 0) h)))
level-not false a true b h = not_T (ltb 0 (b + a)) (λ t. go a b (eqb→eq a b (and_l (eqb a b) (false || eqb a 0) h)) (eqb→eq a 0 (and_r (eqb a b) (eqb a 0) h)) (ltb→lt 0 (b + a) t))
  where
    go : (a b : ℕ) → a ≡ b → a ≡ 0 → 0 < b + a → ⊥
    go a b p q r = omega arith
level-not true a false b h = tt
level-not true a true b h = le→nltb a b (le_of_eq (sym (eqb→eq a b (and_l (eqb a b) (true || eqb a 0) h))))

total : (s : Bool) (a : ℕ) (t : Bool) (b : ℕ) → T (not (below s a t b)) → T (not (level s a t b)) → T (below t b s a)
total false a false b h k = lt→ltb b a (go (eq-or-lt_of_le (nltb→le a b h)))
  where
    go : (b ≡ a) ⊎ (b < a) → b < a
    go (inl e) = absurd (T_not (level false a false b) k (and_i (eqb a b) true (eq→eqb (sym e)) tt))
    go (inr l) = l
total false a true b h k = lt→ltb 0 (b + a) (go (yes_or_no (ltb 0 (b + a))))
  where
    none : (a b : ℕ) → b + a ≤ 0 → (a ≡ b) × (a ≡ 0)
    none a b h = (omega arith, omega arith)

    go : T (ltb 0 (b + a)) ⊎ T (not (ltb 0 (b + a))) → 0 < b + a
    go (inl t) = ltb→lt 0 (b + a) t
    go (inr t) = let z = none a b (nltb→le 0 (b + a) t) in absurd (T_not (level false a true b) k (and_i (eqb a b) (eqb a 0) (eq→eqb z.0) (eq→eqb z.1)))
total true a false b h k = absurd (T_not (level true a false b) k (and_i (eqb a b) (eqb a 0) (eq→eqb z.0) (eq→eqb z.1)))
  where
    none : (a b : ℕ) → a + b ≤ 0 → (a ≡ b) × (a ≡ 0)
    none a b h = (omega arith, omega arith)

    z : (a ≡ b) × (a ≡ 0)
    z = none a b (nltb→le 0 (a + b) h)
total true a true b h k = lt→ltb a b (go (eq-or-lt_of_le (nltb→le b a h)))
  where
    go : (a ≡ b) ⊎ (a < b) → a < b
    go (inl e) = absurd (T_not (level true a true b) k (and_i (eqb a b) true (eq→eqb e) tt))
    go (inr l) = l

le-fin : (s : Bool) (a : ℕ) (t : Bool) (b : ℕ) → (below s a t b || level s a t b) ≡ not (below t b s a)
le-fin s a t b =
    same_test (below s a t b || level s a t b) (not (below t b s a))
    (λ h. elim (or_split (below s a t b) (level s a t b) h) [ inl k ↦ below-asym s a t b k | inr k ↦ level-not s a t b k ])
    (λ h. other (below s a t b) (level s a t b) (λ u v. T_not (below t b s a) h (total s a t b u v)))
  where
    other : (p q : Bool) → (T (not p) → T (not q) → ⊥) → T (p || q)
    other true q f = tt
    other false true f = tt
    other false false f = absurd (f tt tt)

pub le_is : (x y : Float) → Number x → Number y → le x y ≡ not (lt y x)
unfolding le is_nan
le_is nan y n k = absurd n
le_is (inf s) nan n k = absurd k
le_is (inf true) (inf true) n k = refl
le_is (inf true) (inf false) n k = refl
le_is (inf false) (inf true) n k = refl
le_is (inf false) (inf false) n k = refl
le_is (inf true) (fin t m d) n k = refl
le_is (inf false) (fin t m d) n k = refl
le_is (fin s m e) nan n k = absurd k
le_is (fin s m e) (inf true) n k = refl
le_is (fin s m e) (inf false) n k = refl
le_is (fin s m e) (fin t p d) n k = le-fin s (m * up e * down d) t (p * up d * down e)

pub le_left : (x y : Float) → T (le x y) → Number x
unfolding le is_nan
le_left nan y h = absurd h
le_left (inf s) y h = tt
le_left (fin s m e) y h = tt

pub le_right : (x y : Float) → T (le x y) → Number y
unfolding le is_nan
le_right nan y h = absurd h
le_right (inf s) nan h = absurd h
le_right (inf s) (inf t) h = tt
le_right (inf s) (fin t n d) h = tt
le_right (fin s m e) nan h = absurd h
le_right (fin s m e) (inf t) h = tt
le_right (fin s m e) (fin t n d) h = tt

pub le_not : (x y : Float) → T (le x y) → x ⊑ y
le_not x y h = subst T (le_is x y (le_left x y h) (le_right x y h)) h

pub not-le : (x y : Float) → Number x → Number y → T (not (le x y)) → T (lt y x)
not-le x y n k h = elim (yes_or_no (lt y x)) [ inl t ↦ t | inr t ↦ absurd (T_not (le x y) h (subst T (sym (le_is x y n k)) t)) ]

pub val-leq : (x y : Float) → T (finite x) → T (finite y) → T (le x y) → val x ≤q val y
val-leq x y f g h = val-le y x g f (le_not x y h)

-- ---- `==` of finite doubles, both zeros one number
level-sym : (s : Bool) (a : ℕ) (t : Bool) (b : ℕ) → T (level s a t b) → T (level t b s a)
level-sym s a t b h =
    let e : a ≡ b = eqb→eq a b (and_l (eqb a b) (beq s t || eqb a 0) h) in
    and_i (eqb b a) (beq t s || eqb b 0) (eq→eqb (sym e))
    (subst (λ (c : ℕ). T (beq t s || eqb c 0)) e (swap s t (and_r (eqb a b) (beq s t || eqb a 0) h)))
  where
    swap : (s t : Bool) → T (beq s t || eqb a 0) → T (beq t s || eqb a 0)
    swap true true h = tt
    swap true false h = h
    swap false true h = h
    swap false false h = tt

eq-sym : (x y : Float) → T (finite x) → T (finite y) → T (eq x y) → T (eq y x)
unfolding eq
eq-sym nan y f g h = absurd f
eq-sym (inf s) y f g h = absurd f
eq-sym (fin s m e) nan f g h = absurd g
eq-sym (fin s m e) (inf t) f g h = absurd g
eq-sym (fin s m e) (fin t n d) f g h = level-sym s (m * up e * down d) t (n * up d * down e) h

eq-not : (x y : Float) → T (eq x y) → x ⊑ y
eq-not x y h = le_not x y (unfold le in or_r (lt x y) (eq x y) h)

pub val-eq : (x y : Float) → T (finite x) → T (finite y) → T (eq x y) → val x ≡ val y
val-eq x y f g h = ≤-antisym (val-le y x g f (eq-not x y h)) (val-le x y f g (eq-not y x (eq-sym x y f g h)))
