-- One knot inserted m times; and both ends of a cut, until each stands degree + 1 times.
-- Assumes nothing.
use Prim.Native.Nat.{ℕ, ◌+◌, ◌*◌, ◌≤◌, ◌<◌}
use mathlib.Core.Bool.{Bool, true, false, not}
use mathlib.Core.Path.{◌≡◌, refl, sym, ◌∙◌, ap, subst}
use mathlib.Core.List.{List, [], ◌∷◌, ◌++◌}
use native.Mathlib.Omega.{arith}
use lib.ListN.{length, replicate, length-replicate, length-append, replicate-append-replicate}
use lib.Ieee.{Float, lt, le, eq}
use lib.Ieee.Scale.{finite}
use Rattle.doubles.specs.Run.{at}
use Rattle.doubles.proofs.TestedOrder.{lt_irrefl, lt-asym, lt_trans, le_is}
use Rattle.knots.specs.Knots.{ValidKnots}
use Rattle.knots.specs.declared.refusal.Refusal.{Refusal}
use Rattle.knots.proofs.Below.{and-true}
use Rattle.edits.specs.Counts.{bit, multiplicity_of, missing_of, below_of}
use Rattle.edits.specs.Rows.{given}
use Rattle.insertion.specs.Insert.{inside}
use Rattle.insertion.specs.Fold.{insert_all}
use Rattle.edits.specs.Outcome.{gives, refuses}
use Rattle.edits.specs.Start.{clamped_ends}
use Rattle.insertion.proofs.KnotCounts.{gt-not-eq, lt-not-eq, eq-finite, eq_self, eq-lt-left, level-eq, not-both, refuted, multiplicity-same, multiplicity-most}
use Rattle.insertion.proofs.KnotCounts.{multiplicity-low, multiplicity-high}
use Rattle.insertion.proofs.ListResult.{AllInside, count_in, each_append, each-replicate, count-append, count-replicate, and_then, insert-append, made, made-multiplicity}
use Rattle.insertion.proofs.ListResult.{made-below, made-low, made-high, made-clamped}
use Rattle.insertion.proofs.Never.{Late, inside-finite, late}

-- ---- room
module _ (p n : ℕ) (ks : List Float) (v : ValidKnots p n ks) where
  -- m times t, beside c numbers that equal u
  pub room-more : (t u : Float) → finite t ≡ true → (m c : ℕ) → multiplicity_of ks t + m ≤ p + 1 → multiplicity_of ks u + c ≤ p + 1 → (eq t u ≡ true → c ≡ 0)
      → multiplicity_of ks u + (m * bit (eq t u) + c) ≤ p + 1
  room-more t u T m c a b h = go (eq t u) refl
    where
      go : (x : Bool) → eq t u ≡ x → multiplicity_of ks u + (m * bit (eq t u) + c) ≤ p + 1
      go false e = rw e (omega arith)
      go true e = let z = h e in let q = multiplicity-same p n ks v t u T (eq-finite t u T e) e in rw e (omega arith)

  pub room-replicate : (t : Float) → finite t ≡ true → (m : ℕ) → multiplicity_of ks t + m ≤ p + 1 → (u : Float) → multiplicity_of ks u + count_in (λ x. eq x u) (replicate m t) ≤ p + 1
  room-replicate t T m a u = omega (arith, count-replicate (λ x. eq x u) m t, room-more t u T m 0 a (omega (arith, multiplicity-most p n ks v u)) (λ e. refl))

  -- how often it is still to be inserted
  pub missing-fills : (t : Float) → multiplicity_of ks t + missing_of p ks t ≡ p + 1
  missing-fills t = omega (arith, multiplicity-most p n ks v t)

-- ---- one knot, m times
pub record Repeated (p : ℕ) (g : Bool) (n : ℕ) (ks ps ws : List Float) (m : ℕ) (t : Float) (ks' ps' ws' : List Float) : Type 0 where
  pub valid : ValidKnots p (n + m) ks'
  pub points : length ps ≡ n * 3 → length ps' ≡ (n + m) * 3
  pub weights : length ws ≡ given g n → length ws' ≡ given g (n + m)
  pub multiplicity : (u : Float) → multiplicity_of ks' u ≡ multiplicity_of ks u + m * bit (eq t u)
  pub below : (u : Float) → below_of ks' u ≡ below_of ks u + m * bit (lt t u)
  pub low : at ks' p ≡ at ks p
  pub high : at ks' (n + m) ≡ at ks n
  pub clamped : clamped_ends p (n + m) ks' ≡ clamped_ends p n ks

module _ (p : ℕ) (g : Bool) (n : ℕ) (ks ps ws : List Float) (v : ValidKnots p n ks) (t : Float) where
  pub repeated : (m : ℕ) (ks' ps' ws' : List Float) → insert_all p g n ks ps ws (replicate m t) ≡ gives ks' ps' ws' → Repeated p g n ks ps ws m t ks' ps' ws'
  repeated m ks' ps' ws' e =
      let M = made p g n ks ps ws (replicate m t) ks' ps' ws' v e in
      let l : length (replicate m t) ≡ m = length-replicate m t in
      record {
        valid = subst (λ (i : ℕ). ValidKnots p (n + i) ks') l M.valid;
        points = λ h. subst (λ (i : ℕ). length ps' ≡ (n + i) * 3) l (M.points h);
        weights = λ h. subst (λ (i : ℕ). length ws' ≡ given g (n + i)) l (M.weights h);
        multiplicity = λ u. omega (arith, made-multiplicity p g n ks ps ws (replicate m t) ks' ps' ws' v M u, count-replicate (λ x. eq x u) m t);
        below = λ u. omega (arith, made-below p g n ks ps ws (replicate m t) ks' ps' ws' v M u, count-replicate (λ x. lt x u) m t);
        low = made-low p g n ks ps ws (replicate m t) ks' ps' ws' v M;
        high = subst (λ (i : ℕ). at ks' (n + i) ≡ at ks n) l (made-high p g n ks ps ws (replicate m t) ks' ps' ws' v M);
        clamped = subst (λ (i : ℕ). clamped_ends p (n + i) ks' ≡ clamped_ends p n ks) l (made-clamped p g n ks ps ws (replicate m t) ks' ps' ws' v M);
      }

  -- one time more
  pub repeated-next : (m : ℕ) → insert_all p g n ks ps ws (replicate (m + 1) t) ≡ and_then (insert_all p g n ks ps ws (replicate m t)) (λ ks' ps' ws'. insert_all p g (n + m) ks' ps' ws' (t ∷ []))
  repeated-next m =
      ap (insert_all p g n ks ps ws) (sym (replicate-append-replicate m 1 t))
      ∙ (insert-append p g n ks ps ws (replicate m t) (t ∷ [])
      ∙ ap (λ (i : ℕ). and_then (insert_all p g n ks ps ws (replicate m t)) (λ ks' ps' ws'. insert_all p g (n + i) ks' ps' ws' (t ∷ []))) (length-replicate m t))

  module _ (I : inside (at ks p) (at ks n) t ≡ true) where
    pub repeated-late : (m : ℕ) → multiplicity_of ks t + m ≤ p + 1 → (r : Refusal) → insert_all p g n ks ps ws (replicate m t) ≡ refuses r → Late r
    repeated-late m a r =
        late p g n ks ps ws (replicate m t) r v (each-replicate (λ x. inside (at ks p) (at ks n) x ≡ true) m t I) (room-replicate p n ks v t (inside-finite (at ks p) (at ks n) t I) m a)

    -- the source inserts t while it stands there less than degree + 1 times: so often it does
    pub loop-on : (j : ℕ) → j < missing_of p ks t → (ks' ps' ws' : List Float) → insert_all p g n ks ps ws (replicate j t) ≡ gives ks' ps' ws'
        → (multiplicity_of ks' t ≡ multiplicity_of ks t + j) × (multiplicity_of ks' t < p + 1)
    loop-on j l ks' ps' ws' e =
        let a = (repeated j ks' ps' ws' e).multiplicity t in
        let b : bit (eq t t) ≡ 1 = ap bit (eq_self t (inside-finite (at ks p) (at ks n) t I)) in
        let c : multiplicity_of ks' t ≡ multiplicity_of ks t + j = a ∙ rw b (omega arith) in
        (c, omega arith)

    pub loop-off : (ks' ps' ws' : List Float) → insert_all p g n ks ps ws (replicate (missing_of p ks t) t) ≡ gives ks' ps' ws' → multiplicity_of ks' t ≡ p + 1
    loop-off ks' ps' ws' e =
        let a = (repeated (missing_of p ks t) ks' ps' ws' e).multiplicity t in
        let b : bit (eq t t) ≡ 1 = ap bit (eq_self t (inside-finite (at ks p) (at ks n) t I)) in
        let c : multiplicity_of ks' t ≡ multiplicity_of ks t + missing_of p ks t = a ∙ rw b (omega arith) in
        omega (arith, missing-fills p n ks v t)

-- ---- a clamped curve, cut at its ends or inside
pub inside-by : (lo hi t : Float) → finite lo ≡ true → finite hi ≡ true → finite t ≡ true → lt lo t ≡ true → lt t hi ≡ true → inside lo hi t ≡ true
unfolding inside
inside-by lo hi t L H T a b =
    and-true (finite t) _ T (and-true (not (le t lo)) (not (le hi t)) (ap not (le_is t lo T L ∙ ap not a)) (ap not (le_is hi t H T ∙ ap not b)))

module _ (p n : ℕ) (ks : List Float) (v : ValidKnots p n ks) (c : clamped_ends p n ks ≡ true) where
  -- at an end of the domain nothing is missing
  pub missing-inside : (t : Float) → finite t ≡ true → lt t (at ks p) ≡ false → lt (at ks n) t ≡ false → AllInside p n ks (replicate (missing_of p ks t) t)
  missing-inside t T a b = go (lt (at ks p) t) refl (lt t (at ks n)) refl
    where
      first : finite (at ks p) ≡ true
      first = let l = v.long in v.finites p (omega arith)

      last : finite (at ks n) ≡ true
      last = let l = v.long in v.finites n (omega arith)

      none : (y : Float) → finite y ≡ true → multiplicity_of ks y ≡ p + 1 → eq t y ≡ true → AllInside p n ks (replicate (missing_of p ks t) t)
      none y Y f e =
          let z : 0 ≡ missing_of p ks t = omega (arith, multiplicity-same p n ks v t y T Y e) in
          subst (λ (m : ℕ). AllInside p n ks (replicate m t)) z tt

      go : (x : Bool) → lt (at ks p) t ≡ x → (y : Bool) → lt t (at ks n) ≡ y → AllInside p n ks (replicate (missing_of p ks t) t)
      go false e y f = none (at ks p) first (multiplicity-low p n ks v c) (level-eq t (at ks p) T first a e)
      go true e false f = none (at ks n) last (multiplicity-high p n ks v c) (level-eq t (at ks n) T last f b)
      go true e true f = each-replicate (λ x. inside (at ks p) (at ks n) x ≡ true) (missing_of p ks t) t (inside-by (at ks p) (at ks n) t first last T e f)

-- what is inserted for both ends of a cut to be full
abbrev pub cut_ends : ℕ → List Float → Float → Float → List Float
cut_ends p ks lo hi = replicate (missing_of p ks lo) lo ++ replicate (missing_of p ks hi) hi

pub record Cut (p n : ℕ) (ks : List Float) (lo hi : Float) (ks' : List Float) : Type 0 where
  pub full-low : multiplicity_of ks' lo ≡ p + 1
  pub full-high : multiplicity_of ks' hi ≡ p + 1
  pub below-low : below_of ks' lo ≡ below_of ks lo
  pub below-high : below_of ks' hi ≡ below_of ks hi + missing_of p ks lo
  pub long : length ks' ≡ n + missing_of p ks lo + missing_of p ks hi + p + 1

module _ (p : ℕ) (ks : List Float) (lo hi : Float) where
  ends-count : (f : Float → Bool) → count_in f (cut_ends p ks lo hi) ≡ missing_of p ks lo * bit (f lo) + missing_of p ks hi * bit (f hi)
  ends-count f =
      omega (arith, count-append f (replicate (missing_of p ks lo) lo) (replicate (missing_of p ks hi) hi), count-replicate f (missing_of p ks lo) lo, count-replicate f (missing_of p ks hi) hi)

  pub ends-long : length (cut_ends p ks lo hi) ≡ missing_of p ks lo + missing_of p ks hi
  ends-long =
      omega (arith, length-append (replicate (missing_of p ks lo) lo) (replicate (missing_of p ks hi) hi), length-replicate (missing_of p ks lo) lo, length-replicate (missing_of p ks hi) hi)

module _ (p : ℕ) (g : Bool) (n : ℕ) (ks ps ws : List Float) (v : ValidKnots p n ks) (lo hi : Float) (L : finite lo ≡ true) (H : finite hi ≡ true) (b : lt lo hi ≡ true) where
  ends-room : (u : Float) → multiplicity_of ks u + count_in (λ x. eq x u) (cut_ends p ks lo hi) ≤ p + 1
  ends-room u =
      let x = missing-fills p n ks v lo in
      let y = missing-fills p n ks v hi in
      let r = room-replicate p n ks v hi H (missing_of p ks hi) (omega arith) u in
      let q = count-replicate (λ x. eq x u) (missing_of p ks hi) hi in
      omega (arith, ends-count p ks lo hi (λ x. eq x u), room-more p n ks v lo u L (missing_of p ks lo) (missing_of p ks hi * bit (eq hi u)) (omega arith) (omega arith) none)
    where
      none : eq lo u ≡ true → missing_of p ks hi * bit (eq hi u) ≡ 0
      none e = let U = eq-finite lo u L e in rw (gt-not-eq hi u H U (eq-lt-left lo u L U e hi H b)) (omega arith)

  pub cut-late : clamped_ends p n ks ≡ true → lt lo (at ks p) ≡ false → lt (at ks n) hi ≡ false → (r : Refusal) → insert_all p g n ks ps ws (cut_ends p ks lo hi) ≡ refuses r → Late r
  cut-late c i j r =
      late p g n ks ps ws (cut_ends p ks lo hi) r v
      (each_append (λ x. inside (at ks p) (at ks n) x ≡ true) (replicate (missing_of p ks lo) lo) (replicate (missing_of p ks hi) hi)
      (missing-inside p n ks v c lo L i (refuted (lt (at ks n) lo) (λ e. not-both (lt (at ks n) hi) (lt_trans (at ks n) lo hi e b) j)))
      (missing-inside p n ks v c hi H (refuted (lt hi (at ks p)) (λ e. not-both (lt lo (at ks p)) (lt_trans lo hi (at ks p) b e) i)) j)) ends-room

  pub cut-made : (ks' ps' ws' : List Float) → insert_all p g n ks ps ws (cut_ends p ks lo hi) ≡ gives ks' ps' ws' → Cut p n ks lo hi ks'
  cut-made ks' ps' ws' e =
      let M = made p g n ks ps ws (cut_ends p ks lo hi) ks' ps' ws' v e in
      let x = missing-fills p n ks v lo in
      let y = missing-fills p n ks v hi in
      let times = made-multiplicity p g n ks ps ws (cut_ends p ks lo hi) ks' ps' ws' v M in
      let less = made-below p g n ks ps ws (cut_ends p ks lo hi) ks' ps' ws' v M in
      record {
        full-low = times lo ∙ rw (ends-count p ks lo hi (λ x. eq x lo), eq_self lo L, gt-not-eq hi lo H L b) (omega arith);
        full-high = times hi ∙ rw (ends-count p ks lo hi (λ x. eq x hi), eq_self hi H, lt-not-eq lo hi b) (omega arith);
        below-low = less lo ∙ rw (ends-count p ks lo hi (λ x. lt x lo), lt_irrefl lo, lt-asym lo hi b) (omega arith);
        below-high = less hi ∙ rw (ends-count p ks lo hi (λ x. lt x hi), lt_irrefl hi, b) (omega arith);
        long = omega (arith, M.valid.long, ends-long p ks lo hi);
      }
