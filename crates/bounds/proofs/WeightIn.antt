-- The least and the largest weight, the enclosure of their quotient, and the points of the first net. Assumes nothing.
use mathlib.Core.Path.{◌≡◌, refl, sym, subst}
use mathlib.Core.Bool.{Bool, true, false, not, ◌||◌, cond}
use mathlib.Core.Logic.{◌⊎◌, inl, inr}
use mathlib.Core.List.{List}
use Prim.Native.Nat.{ℕ, zero, suc, ◌+◌, ◌*◌, ◌<◌}
use native.Mathlib.Nat.{eq-or-lt_of_le, le_of_suc-le-suc}
use native.Mathlib.Omega.{arith}
use lib.Dec.{T}
use lib.ListN.{length}
use lib.Ieee.{Float, nan, inf, fin, lt, le, is_nan}
use lib.Ieee.Scale.{finite}
use Rattle.doubles.proofs.TestFacts.{T_of, or_split}
use Rattle.doubles.proofs.Enclose.{lower-le}
use Rattle.doubles.proofs.Value.{val-lt, val-le, val-one}
use Rattle.doubles.specs.Neighbour.{fmin, fmax}
use Rattle.doubles.specs.Run.{at}
use Rattle.doubles.specs.Value.{Lower, Upper, val, zero+, one+}
use Rattle.exact.proofs.Field.{≤-refl, ≤_trans, lt→le, div_is}
use Rattle.exact.specs.Rational.{ℚ, ◌-q◌, ◌*q◌, ◌/q◌, inv, q0, q1, ◌≤q◌, ◌<q◌}
use Rattle.interval.proofs.Contain.{point-inside, sub-inside, mul-inside, ends-ordered, Formed, reciprocal-formed, divide-formed}
use Rattle.interval.specs.Inside.{Inside}
use Rattle.interval.specs.Ops.{point_of, mul_of, new_of, reciprocal_of, divide_of}
use Rattle.interval.specs.declared.Interval.{Interval}
use Rattle.jets.specs.declared.net.Control.{Control}
use Rattle.runs.specs.declared.vector.Vector.{Vector}
use Rattle.bounds.specs.declared.start.Weights.{Weights}
use Rattle.jets.proofs.NetIn.{Given}
use Rattle.jets.proofs.CartesianIn.{FinitePoint}
use Rattle.bounds.specs.Start.{max_from, min_from, are_by, range_by, range_of, moved_of, control_of}
use Rattle.runs.specs.Point as P
use Rattle.jets.proofs.JetIn.{JetIn, jet-const}
use Rattle.std.specs.Prelude.{Some, None, Result, Ok, Err}
use Rattle.interval.specs.declared.DivideError.{DivideError}
use Rattle.interval.specs.declared.DivideError.TheVariants.{HoldsZero, Unbounded}
use Rattle.knots.specs.declared.refusal.Refusal.{Refusal}
use Rattle.knots.specs.declared.refusal.Reason.TheVariants.{WeightRatioLow}
use Rattle.knots.specs.Refusal.{refuse}

not_left : (x y : Bool) → T (not (x || y)) → T (not x)
not_left true y h = h
not_left false y h = tt

number : (a : Float) → T (finite a) → T (is_nan a) → ⊥
unfolding is_nan
number nan f h = f
number (inf s) f h = f
number (fin s m e) f h = h

-- ---- Rust's max and min of two finite numbers

pub record Above (a b m : Float) : Type 0 where
  pub held : T (finite m)
  pub first : val a ≤q val m
  pub second : val b ≤q val m

pub record Below (a b m : Float) : Type 0 where
  pub held : T (finite m)
  pub first : val m ≤q val a
  pub second : val m ≤q val b
  pub positive : q0 <q val a → q0 <q val b → q0 <q val m

pub max-above : (a b : Float) → T (finite a) → T (finite b) → Above a b (fmax a b)
max-above a b f g = go (lt a b || is_nan a) (or_split (lt a b) (is_nan a)) (not_left (lt a b) (is_nan a))
  where
    go : (c : Bool) → (T c → T (lt a b) ⊎ T (is_nan a)) → (T (not c) → T (not (lt a b))) → Above a b (cond c b a)
    go true h k = record { held = g; first = elim (h tt) [ inl l ↦ lt→le (val-lt a b f g l) | inr n ↦ absurd (number a f n) ]; second = ≤-refl (val b) }
    go false h k = record { held = f; first = ≤-refl (val a); second = val-le a b f g (k tt) }

pub min-below : (a b : Float) → T (finite a) → T (finite b) → Below a b (fmin a b)
min-below a b f g = go (lt b a || is_nan a) (or_split (lt b a) (is_nan a)) (not_left (lt b a) (is_nan a))
  where
    go : (c : Bool) → (T c → T (lt b a) ⊎ T (is_nan a)) → (T (not c) → T (not (lt b a))) → Below a b (cond c b a)
    go true h k = record { held = g; first = elim (h tt) [ inl l ↦ lt→le (val-lt b a g f l) | inr n ↦ absurd (number a f n) ]; second = ≤-refl (val b); positive = λ p q. q }
    go false h k = record { held = f; first = ≤-refl (val a); second = val-le b a g f (k tt); positive = λ p q. p }

pub min-first : (b : Float) → T (finite b) → fmin (inf false) b ≡ b
unfolding lt is_nan
min-first nan f = absurd f
min-first (inf s) f = absurd f
min-first (fin s m e) f = refl

-- ---- of a number and k weights

pub record From (a : Float) (w : ℕ → Float) (k : ℕ) (m : Float) : Type 0 where
  pub held : T (finite m)
  pub first : val a ≤q val m
  pub all : (i : ℕ) → i < k → val (w i) ≤q val m

pub record Under (a : Float) (w : ℕ → Float) (k : ℕ) (m : Float) : Type 0 where
  pub held : T (finite m)
  pub first : val m ≤q val a
  pub all : (i : ℕ) → i < k → val m ≤q val (w i)
  pub positive : q0 <q val a → q0 <q val m

pub max-from : (a : Float) (w : ℕ → Float) (k : ℕ) → T (finite a) → ((i : ℕ) → i < k → T (finite (w i))) → From a w k (max_from a w k)
unfolding max_from
max-from a w zero g f = record { held = g; first = ≤-refl (val a); all = λ i l. absurd (omega arith) }
max-from a w (suc k) g f = go (max-from a w k g (λ i l. f i (omega arith)))
  where
    go : From a w k (max_from a w k) → From a w (suc k) (fmax (max_from a w k) (w k))
    go r =
        let m = max-above (max_from a w k) (w k) r.held (f k (omega arith)) in
        record {
          held = m.held;
          first = ≤_trans r.first m.first;
          all = λ i l. elim (eq-or-lt_of_le (le_of_suc-le-suc l)) [ inl e ↦ subst (λ j. val (w j) ≤q val (fmax (max_from a w k) (w k))) (sym e) m.second | inr h ↦ ≤_trans (r.all i h) m.first ];
        }

pub min-from : (a : Float) (w : ℕ → Float) (k : ℕ) → T (finite a) → ((i : ℕ) → i < k → T (finite (w i))) → ((i : ℕ) → i < k → q0 <q val (w i)) → Under a w k (min_from a w k)
unfolding min_from
min-from a w zero g f p = record { held = g; first = ≤-refl (val a); all = λ i l. absurd (omega arith); positive = λ x. x }
min-from a w (suc k) g f p = go (min-from a w k g (λ i l. f i (omega arith)) (λ i l. p i (omega arith)))
  where
    go : Under a w k (min_from a w k) → Under a w (suc k) (fmin (min_from a w k) (w k))
    go r =
        let m = min-below (min_from a w k) (w k) r.held (f k (omega arith)) in
        record {
          held = m.held;
          first = ≤_trans m.first r.first;
          all = λ i l. elim (eq-or-lt_of_le (le_of_suc-le-suc l)) [ inl e ↦ subst (λ j. val (fmin (min_from a w k) (w k)) ≤q val (w j)) (sym e) m.second | inr h ↦ ≤_trans m.first (r.all i h) ];
          positive = λ x. m.positive (r.positive x) (p k (omega arith));
        }

-- ---- of k weights

pub record Largest (w : ℕ → Float) (k : ℕ) (m : Float) : Type 0 where
  pub held : T (finite m)
  pub all : (i : ℕ) → i < k → val (w i) ≤q val m

pub record Least (w : ℕ → Float) (k : ℕ) (m : Float) : Type 0 where
  pub held : T (finite m)
  pub all : (i : ℕ) → i < k → val m ≤q val (w i)
  pub positive : q0 <q val m

pub largest : (w : ℕ → Float) (k : ℕ) → ((i : ℕ) → i < k → T (finite (w i))) → Largest w k (max_from zero+ w k)
largest w k f = let r = max-from zero+ w k tt f in record { held = r.held; all = r.all }

pub least : (w : ℕ → Float) (k : ℕ) → ((i : ℕ) → i < suc k → T (finite (w i))) → ((i : ℕ) → i < suc k → q0 <q val (w i)) → Least w (suc k) (min_from (inf false) w (suc k))
unfolding min_from
least w zero f g = rw (min-first (w 0) (f 0 (omega arith)))
    (record { held = f 0 (omega arith); all = λ i l. let e : 0 ≡ i = omega arith in subst (λ j. val (w 0) ≤q val (w j)) e (≤-refl (val (w 0))); positive = g 0 (omega arith) })
least w (suc k) f g = go (least w k (λ i l. f i (omega arith)) (λ i l. g i (omega arith)))
  where
    go : Least w (suc k) (min_from (inf false) w (suc k)) → Least w (suc (suc k)) (fmin (min_from (inf false) w (suc k)) (w (suc k)))
    go r =
        let m = min-below (min_from (inf false) w (suc k)) (w (suc k)) r.held (f (suc k) (omega arith)) in
        record {
          held = m.held;
          all =
              λ i l. elim (eq-or-lt_of_le (le_of_suc-le-suc l))
              [ inl e ↦ subst (λ j. val (fmin (min_from (inf false) w (suc k)) (w (suc k))) ≤q val (w j)) (sym e) m.second | inr h ↦ ≤_trans m.first (r.all i h) ];
          positive = m.positive r.positive (g (suc k) (omega arith));
        }

-- ---- the enclosure [low of least / most, 1]

pub record Cut (least most scale : Float) (bound : Interval) : Type 0 where
  pub scaled : scale ≡ most
  pub low : Lower (bound.lo) (val least /q val most)
  pub one : bound.hi ≡ one+

-- or a refusal that is not 28 and not 29
abbrev pub Cuts : Float → Float → Result Weights Refusal → Type 0
Cuts least most (Ok w) = Cut least most w.scale w.bound
Cuts least most (Err r) = Given (Err r)

below_one : {x : ℚ} → x ≤q q1 → Upper one+ x
below_one {x} h = subst (λ y. x ≤q y) (sym val-one) h

pub range-in : (least most : Float) → T (finite least) → T (finite most) → val least /q val most ≤q q1 → Cuts least most (range_of least most)
unfolding range_of new_of
range-in least most f g u = go (divide_of (point_of least) (point_of most)) (divide-formed _ _ _ _ (point-inside least f) (point-inside most g))
  where
    made : (q : Interval) → Inside q (val least /q val most) → (b : Bool) → T b → Cuts least most (are_by most (cond b (Some (record { lo = q.lo; hi = one+ })) None))
    made q d true h = record { scaled = refl; low = d.low; one = refl }
    made q d false h = absurd h

    test : (q : Interval) → Inside q (val least /q val most) → (b : Bool) → Cuts least most (cond b (Err (refuse WeightRatioLow)) (are_by most (new_of q.lo one+)))
    test q d true = tt
    test q d false = made q d (le q.lo one+) (ends-ordered q.lo one+ (val least /q val most) d.low (below_one u))

    go : (q : Result Interval DivideError) → Formed q (val least /q val most) → Cuts least most (range_by most q)
    go (Ok q) d = test q d (le q.lo zero+)
    go (Err HoldsZero) d = tt
    go (Err Unbounded) d = absurd d

-- the reciprocal of the scale, and the weight's enclosure
module _ {least most scale : Float} {bound : Interval} (cut : Cut least most scale bound) where
  pub scale_in : T (finite most) → Formed (reciprocal_of (point_of scale)) (inv (val most))
  scale_in f = subst (λ (x : Float). Formed (reciprocal_of (point_of x)) (inv (val most))) (sym cut.scaled) (reciprocal-formed _ (val most) (point-inside most f))

  pub bound-in : (W : ℚ) → val least /q val most ≤q W → W ≤q q1 → Inside bound W
  bound-in W l h = record { low = lower-le bound.lo cut.low l; high = subst (λ x. Upper x W) (sym cut.one) (below_one h) }

-- ---- a point of the net

pub record ControlIn (c : Control) (X Y Z W : ℚ) : Type 0 where
  pub x : JetIn c.x X q0 q0
  pub y : JetIn c.y Y q0 q0
  pub z : JetIn c.z Z q0 q0
  pub w : JetIn c.w W q0 q0

-- each of the n points of a run of finite coordinates
pub point-finite : (ps : List Float) (n : ℕ) → length ps ≡ 3 * n → ((k : ℕ) → k < length ps → finite (at ps k) ≡ true) → (i : ℕ) → i < n → FinitePoint (P.point_of ps i)
point-finite ps n e f i l = record { x = T_of _ (f (i * 3 + 0) (omega arith)); y = T_of _ (f (i * 3 + 1) (omega arith)); z = T_of _ (f (i * 3 + 2) (omega arith)) }

moved_in : (p o : Float) (q : Interval) (W : ℚ) → T (finite p) → T (finite o) → Inside q W → JetIn (moved_of p o q) ((val p -q val o) *q W) q0 q0
unfolding moved_of
moved_in p o q W f g d = jet-const _ (mul-inside _ q _ W (sub-inside _ _ _ _ (point-inside p f) (point-inside o g)) d)

pub control-in : (p o : Vector) (w : Float) (r : Interval) (σ : ℚ) → FinitePoint p → FinitePoint o → T (finite w) → Inside r (inv σ)
    → ControlIn (control_of p o w r) ((val p.x -q val o.x) *q (val w /q σ)) ((val p.y -q val o.y) *q (val w /q σ)) ((val p.z -q val o.z) *q (val w /q σ)) (val w /q σ)
unfolding control_of
control-in p o w r σ f g h k =
    let d : Inside (mul_of (point_of w) r) (val w /q σ) = subst (Inside (mul_of (point_of w) r)) (sym (div_is (val w) σ)) (mul-inside _ r _ (inv σ) (point-inside w h) k) in
    record {
      x = moved_in p.x o.x (mul_of (point_of w) r) (val w /q σ) f.x g.x d;
      y = moved_in p.y o.y (mul_of (point_of w) r) (val w /q σ) f.y g.y d;
      z = moved_in p.z o.z (mul_of (point_of w) r) (val w /q σ) f.z g.z d;
      w = jet-const (mul_of (point_of w) r) d;
    }
