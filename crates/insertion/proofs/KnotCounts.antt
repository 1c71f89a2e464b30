-- How many knots pass a test: with a knot more, in a run that is in order, and where the ends are clamped.
-- Assumes nothing.
use Prim.Native.Nat.{ℕ, zero, suc, ◌+◌, ◌-◌, ◌≤◌, ◌<◌}
use mathlib.Core.Bool.{Bool, true, false, not, ◌||◌}
use mathlib.Core.Path.{◌≡◌, refl, sym, ◌∙◌, ap, subst}
use mathlib.Core.Logic.{⊎_elim}
use mathlib.Core.List.{List}
use native.Mathlib.Omega.{arith}
use native.Mathlib.Numerals.{add-one}
use borrow.Author.Tests.{ltb-true, ne_eqb}
use lib.ListN.{length, take, drop, length-take, length-drop}
use lib.Seq.{get_or-take, get_or-drop}
use lib.Dec.{eqb}
use lib.Ieee.{Float, nan, inf, fin, below, level, lt, le, eq}
use lib.Ieee.Scale.{finite}
use Rattle.doubles.specs.Run.{at}
use Rattle.doubles.proofs.TestedOrder.{lt_irrefl, lt_trans, ge_trans, lt-ge-trans, ge-lt-trans, le_is}
use Rattle.knots.specs.Knots.{ValidKnots}
use Rattle.knots.proofs.Below.{and_left, and_right, and-false-l, and_false_r, all-at}
use Rattle.knots.proofs.Valid.{sorted}
use Rattle.runs.proofs.Tabulated.{at-tabulate, length-tabulate}
use Rattle.runs.proofs.Cases.{lt-or-ge}
use Rattle.edits.specs.Counts.{below_of, bit, count_below, multiplicity_of, all_equal}
use Rattle.insertion.specs.Insert.{knot_at, more_knots}
use Rattle.edits.specs.Start.{clamped_ends}
use Rattle.edits.proofs.CountLoop.{count-le}
use Rattle.insertion.proofs.Storing.{knot-low, knot-here, knot-high}
use Rattle.insertion.proofs.Grown.{count-run}

-- ---- a test by its two answers
pub not-both : (b : Bool) → b ≡ true → b ≡ false → ⊥
not-both b p q = let z : ◌≡◌ {A = ℕ} 0 1 = ap bit (sym q ∙ p) in omega arith

pub refuted : (b : Bool) → (b ≡ true → ⊥) → b ≡ false
refuted true h = absurd (h refl)
refuted false h = refl

pub confirmed : (b : Bool) → (b ≡ false → ⊥) → b ≡ true
confirmed true h = refl
confirmed false h = absurd (h refl)

-- ---- one test beside others
pub count-cong : (f g : ℕ → Bool) (n : ℕ) → ((k : ℕ) → k < n → f k ≡ g k) → count_below f n ≡ count_below g n
unfolding count_below
count-cong f g zero h = refl
count-cong f g (suc n) h = let e : bit (f n) ≡ bit (g n) = ap bit (h n (omega arith)) in omega (arith, count-cong f g n (λ k l. h k (omega arith)))

-- two tests that no place passes both, each of which implies a third
pub count-within : (f g h : ℕ → Bool) (n : ℕ) → ((k : ℕ) → k < n → f k ≡ true → g k ≡ false) → ((k : ℕ) → k < n → f k ≡ true → h k ≡ true) → ((k : ℕ) → k < n → g k ≡ true → h k ≡ true)
    → count_below f n + count_below g n ≤ count_below h n
unfolding count_below
count-within f g h zero a b c = omega arith
count-within f g h (suc n) a b c =
    omega
    (arith, count-within f g h n (λ k l. a k (omega arith)) (λ k l. b k (omega arith)) (λ k l. c k (omega arith)), one (f n) (g n) (h n) (a n (omega arith)) (b n (omega arith)) (c n (omega arith)))
  where
    one : (x y z : Bool) → (x ≡ true → y ≡ false) → (x ≡ true → z ≡ true) → (y ≡ true → z ≡ true) → bit x + bit y ≤ bit z
    one true y z d e i = let p : bit y ≡ 0 = ap bit (d refl) in let q : bit z ≡ 1 = ap bit (e refl) in omega arith
    one false true z d e i = let q : bit z ≡ 1 = ap bit (i refl) in omega arith
    one false false z d e i = omega arith

pub count-apart : (f g : ℕ → Bool) (n : ℕ) → ((k : ℕ) → k < n → f k ≡ true → g k ≡ false) → count_below f n + count_below g n ≤ n
count-apart f g n a = omega (arith, count-within f g (λ k. true) n a (λ k l e. refl) (λ k l e. refl), count-le (λ k. true) n)

-- a test that another one implies
pub count-mono : (f g : ℕ → Bool) (n : ℕ) → ((k : ℕ) → k < n → f k ≡ true → g k ≡ true) → count_below f n ≤ count_below g n
count-mono f g n h = omega (arith, count-within f (λ k. false) g n (λ k l e. refl) h (λ k l e. cc))

-- ---- where no place passes
pub count-late : (f : ℕ → Bool) (a n : ℕ) → a ≤ n → ((i : ℕ) → i < a → f i ≡ false) → a + count_below f n ≤ n
count-late f a n l h = omega (arith, count-run (λ i. not (f i)) 0 a n (omega arith) (λ i x y. ap not (h i (omega arith))), count-apart f (λ i. not (f i)) n (λ i x e. ap not e))

pub count-early : (f : ℕ → Bool) (a n : ℕ) → ((i : ℕ) → a ≤ i → i < n → f i ≡ false) → count_below f n ≤ a
count-early f a n h = ⊎_elim
    (λ (b : n < a). omega (arith, count-le f n))
    (λ (b : a ≤ n). omega (arith, count-run (λ i. not (f i)) a (n - a) n (omega arith) (λ i x y. ap not (h i x (omega arith))), count-apart f (λ i. not (f i)) n (λ i x e. ap not e)))
    (lt-or-ge n a)

-- no two places that pass are m apart
pub count-close : (f : ℕ → Bool) (m n : ℕ) → ((i j : ℕ) → i + m ≤ j → j < n → f i ≡ true → f j ≡ false) → count_below f n ≤ m
unfolding count_below
count-close f m zero h = omega (arith, count-le f 0)
count-close f m (suc n) h = go (f n) refl (count-close f m n (λ i j a b. h i j a (omega arith)))
  where
    go : (x : Bool) → f n ≡ x → count_below f n ≤ m → count_below f (suc n) ≤ m
    go false e r = let z : bit (f n) ≡ 0 = ap bit e in omega arith
    go true e r = ⊎_elim
        (λ (b : suc n < m). omega (arith, count-le f (suc n)))
        (λ (b : m ≤ suc n). omega (arith, count-late f (suc n - m) (suc n) (omega arith) (λ i l. refuted (f i) (λ q. not-both (f n) e (h i n (omega arith) (omega arith) q)))))
        (lt-or-ge (suc n) m)

-- ---- a knot more
module _ (f : Float → Bool) (k : ℕ) (t : Float) (ks : List Float) where
  count-put : (n : ℕ) → k < n → count_below (λ j. f (knot_at k t ks j)) (suc n) ≡ count_below (λ j. f (at ks j)) n + bit (f t)
  unfolding count_below
  count-put zero l = absurd (omega arith)
  count-put (suc n) l = ⊎_elim
      (λ (b : k < n).
      let e : bit (f (at ks n)) ≡ bit (f (knot_at k t ks (suc n))) = ap (λ (x : Float). bit (f x)) (rw add-one at (knot-high k t ks n (omega arith))) in
      omega (arith, count-put n b))
      (λ (b : n ≤ k).
      let q : k ≡ n = omega arith in
      let e : bit (f t) ≡ bit (f (knot_at k t ks (suc n))) = ap (λ (x : Float). bit (f x)) (subst (λ (i : ℕ). t ≡ knot_at k t ks i) (omega arith) (knot-here k t ks)) in
      let c = count-cong (λ j. f (knot_at k t ks j)) (λ j. f (at ks j)) (suc n) (λ j a. ap f (sym (knot-low k t ks j (omega arith)))) in
      omega arith)
      (lt-or-ge k n)

  pub count-grown : k < length ks → count_below (λ j. f (at (more_knots k t ks) j)) (length (more_knots k t ks)) ≡ count_below (λ j. f (at ks j)) (length ks) + bit (f t)
  unfolding more_knots
  count-grown l =
      let e : length (more_knots k t ks) ≡ suc (length ks) = length-tabulate (length ks + 1) (knot_at k t ks) ∙ add-one (length ks) in
      count-cong (λ j. f (at (more_knots k t ks) j)) (λ j. f (knot_at k t ks j)) (length (more_knots k t ks)) (λ j b. ap f (at-tabulate (length ks + 1) (knot_at k t ks) j (omega arith)))
      ∙ (ap (count_below (λ j. f (knot_at k t ks j))) e ∙ count-put (length ks) l)

module _ (k : ℕ) (t : Float) (ks : List Float) (l : k < length ks) (u : Float) where
  pub multiplicity-grown : multiplicity_of (more_knots k t ks) u ≡ multiplicity_of ks u + bit (eq t u)
  unfolding multiplicity_of
  multiplicity-grown = count-grown (λ x. eq x u) k t ks l

  pub below-grown : below_of (more_knots k t ks) u ≡ below_of ks u + bit (lt t u)
  unfolding below_of
  below-grown = count-grown (λ x. lt x u) k t ks l

-- ---- equal as numbers
level-no : (s : Bool) (a : ℕ) (t : Bool) (b : ℕ) → below s a t b ≡ true → level s a t b ≡ false
level-no false a false b h = and-false-l (eqb a b) _ (ne_eqb a b (λ e. let l = ltb-true a b h in omega arith))
level-no false a true b h = absurd (let z : ◌≡◌ {A = ℕ} 0 1 = cc in omega arith)
level-no true zero false b h = and-false-l (eqb zero b) _ (ne_eqb zero b (λ e. let l = ltb-true 0 (0 + b) h in omega arith))
level-no true (suc a) false b h = and_false_r (eqb (suc a) b) _ (ne_eqb (suc a) 0 (λ e. omega arith))
level-no true a true b h = and-false-l (eqb a b) _ (ne_eqb a b (λ e. let l = ltb-true b a h in omega arith))

pub lt-not-eq : (x y : Float) → lt x y ≡ true → eq x y ≡ false
unfolding lt eq
lt-not-eq nan y h = refl
lt-not-eq (inf s) nan h = refl
lt-not-eq (inf true) (inf true) h = sym h
lt-not-eq (inf true) (inf false) h = refl
lt-not-eq (inf false) (inf true) h = refl
lt-not-eq (inf false) (inf false) h = sym h
lt-not-eq (inf s) (fin t n d) h = refl
lt-not-eq (fin s m e) nan h = refl
lt-not-eq (fin s m e) (inf t) h = refl
lt-not-eq (fin s m e) (fin t n d) h = level-no s _ t _ h

-- what equals a finite number is finite
pub eq-finite : (x y : Float) → finite x ≡ true → eq x y ≡ true → finite y ≡ true
unfolding eq
eq-finite nan y f h = let z : ◌≡◌ {A = ℕ} 0 1 = cc in absurd (omega arith)
eq-finite (inf s) y f h = let z : ◌≡◌ {A = ℕ} 0 1 = cc in absurd (omega arith)
eq-finite (fin s m e) nan f h = h
eq-finite (fin s m e) (inf t) f h = h
eq-finite (fin s m e) (fin t n d) f h = refl

module _ (x y : Float) (X : finite x ≡ true) (Y : finite y ≡ true) where
  pub gt-not-eq : lt y x ≡ true → eq x y ≡ false
  unfolding le
  gt-not-eq h = refuted (eq x y) (λ e. not-both (le x y) (go (lt x y) (eq x y) e) (le_is x y X Y ∙ ap not h))
    where
      go : (a b : Bool) → b ≡ true → (a || b) ≡ true
      go true b e = refl
      go false b e = e

  -- neither below the other
  pub level-eq : lt x y ≡ false → lt y x ≡ false → eq x y ≡ true
  unfolding le
  level-eq h k = go (lt x y) (eq x y) h (le_is x y X Y ∙ ap not k)
    where
      go : (a b : Bool) → a ≡ false → (a || b) ≡ true → b ≡ true
      go true b e f = cc
      go false b e f = f

  pub eq-level : eq x y ≡ true → (lt x y ≡ false) × (lt y x ≡ false)
  eq-level h = (refuted (lt x y) (λ e. not-both (eq x y) h (lt-not-eq x y e)), refuted (lt y x) (λ e. not-both (eq x y) h (gt-not-eq e)))

  -- not equal and not above: below
  pub below_by : eq x y ≡ false → lt y x ≡ false → lt x y ≡ true
  below_by h k = confirmed (lt x y) (λ e. not-both (eq x y) (level-eq e k) h)

pub eq_self : (x : Float) → finite x ≡ true → eq x x ≡ true
eq_self x X = level-eq x x X X (lt_irrefl x) (lt_irrefl x)

-- numbers that are equal are below, above and equal to the same numbers
module _ (x y : Float) (X : finite x ≡ true) (Y : finite y ≡ true) (e : eq x y ≡ true) (z : Float) (Z : finite z ≡ true) where
  pub eq-lt-left : lt x z ≡ true → lt y z ≡ true
  eq-lt-left h = ge-lt-trans y x z Y (eq-level x y X Y e).0 h

  pub eq-lt-right : lt z x ≡ true → lt z y ≡ true
  eq-lt-right h = lt-ge-trans z x y Y h (eq-level x y X Y e).1

  pub eq_trans : eq z x ≡ true → eq z y ≡ true
  eq_trans h =
      let a = eq-level x y X Y e in
      let b = eq-level z x Z X h in
      level-eq z y Z Y (ge_trans z x y X b.0 a.0) (ge_trans y x z X a.1 b.1)

pub eq-sym : (x y : Float) → finite x ≡ true → finite y ≡ true → eq x y ≡ true → eq y x ≡ true
eq-sym x y X Y h = let a = eq-level x y X Y h in level-eq y x Y X a.1 a.0

pub eq-same : (x y : Float) → finite x ≡ true → finite y ≡ true → eq x y ≡ true → (z : Float) → finite z ≡ true → eq z x ≡ eq z y
eq-same x y X Y e z Z = go (eq z x) refl (eq z y) refl
  where
    go : (a : Bool) → eq z x ≡ a → (b : Bool) → eq z y ≡ b → eq z x ≡ eq z y
    go true h b k = h ∙ sym (eq_trans x y X Y e z Z h)
    go false h true k = eq_trans y x Y X (eq-sym x y X Y e) z Z k ∙ sym k
    go false h false k = h ∙ sym k

-- ---- knots in order
module _ (p n : ℕ) (ks : List Float) (v : ValidKnots p n ks) where
  -- numbers that are equal stand there equally often
  pub multiplicity-same : (x y : Float) → finite x ≡ true → finite y ≡ true → eq x y ≡ true → multiplicity_of ks x ≡ multiplicity_of ks y
  unfolding multiplicity_of
  multiplicity-same x y X Y e = count-cong (λ j. eq (at ks j) x) (λ j. eq (at ks j) y) (length ks) (λ j l. eq-same x y X Y e (at ks j) (v.finites j l))

  -- ---- below one number and below another
  module _ (lo hi : Float) (L : finite lo ≡ true) (b : lt lo hi ≡ true) where
    pub below-mono : below_of ks lo ≤ below_of ks hi
    unfolding below_of
    below-mono = count-mono (λ j. lt (at ks j) lo) (λ j. lt (at ks j) hi) (length ks) (λ k l e. lt_trans (at ks k) lo hi e b)

    pub below-past : below_of ks lo + multiplicity_of ks lo ≤ below_of ks hi
    unfolding below_of multiplicity_of
    below-past = count-within (λ j. lt (at ks j) lo) (λ j. eq (at ks j) lo) (λ j. lt (at ks j) hi) (length ks) (λ k l e. lt-not-eq (at ks k) lo e) (λ k l e. lt_trans (at ks k) lo hi e b)
        (λ k l e. ge-lt-trans (at ks k) lo hi (v.finites k l) (eq-level (at ks k) lo (v.finites k l) L e).1 b)

  -- ---- the knots below u are the first ones
  module _ (u : Float) where
    down : (i j : ℕ) → i ≤ j → j < length ks → lt (at ks j) u ≡ true → lt (at ks i) u ≡ true
    down i j h l e = ge-lt-trans (at ks i) (at ks j) u (v.finites i (omega arith)) (sorted p n ks v i j h l) e

    pub below-is : (j : ℕ) → j < length ks → lt (at ks j) u ≡ true → j < below_of ks u
    unfolding below_of
    below-is j l e = omega (arith, count-run (λ i. lt (at ks i) u) 0 (j + 1) (length ks) (omega arith) (λ i a b. down i j (omega arith) l e))

    pub below-not : (j : ℕ) → j < length ks → lt (at ks j) u ≡ false → below_of ks u ≤ j
    unfolding below_of
    below-not j l e = count-early (λ i. lt (at ks i) u) j (length ks) (λ i a b. refuted (lt (at ks i) u) (λ h. not-both (lt (at ks j) u) (down j i a b h) e))

    pub below-first : (j : ℕ) → j < below_of ks u → lt (at ks j) u ≡ true
    unfolding below_of
    below-first j b = confirmed (lt (at ks j) u) (λ e. omega (arith, below-not j (omega (arith, count-le (λ i. lt (at ks i) u) (length ks))) e))

    pub below_rest : (j : ℕ) → j < length ks → below_of ks u ≤ j → lt (at ks j) u ≡ false
    below_rest j l b = refuted (lt (at ks j) u) (λ e. omega (arith, below-is j l e))

  -- ---- a number stands there degree + 1 times at most
  apart-not : (t : Float) (i j : ℕ) → i + (p + 1) ≤ j → j < length ks → eq (at ks i) t ≡ true → eq (at ks j) t ≡ false
  apart-not t i j h l e =
      let I = v.finites i (omega arith) in
      let J = v.finites j l in
      let T = eq-finite (at ks i) t I e in
      let m = v.multiplicity i (omega arith) in
      gt-not-eq (at ks j) t J T (eq-lt-left (at ks i) t I T e (at ks j) J (lt-ge-trans (at ks i) (at ks (i + (p + 1))) (at ks j) J m (sorted p n ks v (i + (p + 1)) j h l)))

  pub multiplicity-most : (t : Float) → multiplicity_of ks t ≤ p + 1
  unfolding multiplicity_of
  multiplicity-most t = count-close (λ j. eq (at ks j) t) (p + 1) (length ks) (λ i j h l e. apart-not t i j h l e)

  -- ---- clamped ends
  module _ (c : clamped_ends p n ks ≡ true) where
    pub clamped_low : (j : ℕ) → j ≤ p → eq (at ks j) (at ks p) ≡ true
    unfolding clamped_ends all_equal
    clamped_low j l =
        let L = v.long in
        let e : length (take (p + 1) ks) ≡ p + 1 = simp length-take (omega arith) in
        ap (λ (x : Float). eq x (at ks p)) (sym (get_or-take (p + 1) ks j nan (omega arith)))
        ∙ all-at (λ i. eq (at (take (p + 1) ks) i) (at ks p)) (length (take (p + 1) ks)) (and_left (all_equal (take (p + 1) ks) (at ks p)) (all_equal (drop n ks) (at ks n)) c) j (omega arith)

    pub clamped_high : (j : ℕ) → n ≤ j → j < length ks → eq (at ks j) (at ks n) ≡ true
    unfolding clamped_ends all_equal
    clamped_high j h l =
        let e : length (drop n ks) ≡ length ks - n = length-drop n ks in
        let q : n + (j - n) ≡ j = omega arith in
        ap (λ (i : ℕ). eq (at ks i) (at ks n)) (sym q)
        ∙ (ap (λ (x : Float). eq x (at ks n)) (sym (get_or-drop n ks (j - n) nan))
        ∙ all-at (λ i. eq (at (drop n ks) i) (at ks n)) (length (drop n ks)) (and_right (all_equal (take (p + 1) ks) (at ks p)) (all_equal (drop n ks) (at ks n)) c) (j - n) (omega arith))

    pub multiplicity-low : multiplicity_of ks (at ks p) ≡ p + 1
    unfolding multiplicity_of
    multiplicity-low =
        let L = v.long in
        omega (arith, multiplicity-most (at ks p), count-run (λ j. eq (at ks j) (at ks p)) 0 (p + 1) (length ks) (omega arith) (λ i a b. clamped_low i (omega arith)))

    pub multiplicity-high : multiplicity_of ks (at ks n) ≡ p + 1
    unfolding multiplicity_of
    multiplicity-high =
        let L = v.long in
        omega (arith, multiplicity-most (at ks n), count-run (λ j. eq (at ks j) (at ks n)) n (p + 1) (length ks) (omega arith) (λ i a b. clamped_high i a (omega arith)))

-- no knot is below u and equal to it
pub below-room : (ks : List Float) (u : Float) → below_of ks u + multiplicity_of ks u ≤ length ks
unfolding below_of multiplicity_of
below-room ks u = count-apart (λ j. lt (at ks j) u) (λ j. eq (at ks j) u) (length ks) (λ k l e. lt-not-eq (at ks k) u e)
