-- The Cartesian bounds hold the quotient moved by the reference, and its derivatives. Assumes nothing.
use mathlib.Core.Path.{◌≡◌, refl, sym, subst}
use mathlib.Core.Bool.{Bool, true, false, ◌||◌, cond}
use lib.Dec.{T}
use Rattle.std.specs.Prelude.{Some, None, Result, Ok, Err}
use Rattle.knots.specs.declared.refusal.Refusal.{Refusal}
use lib.Ieee.{Float, lt, le, is_nan}
use lib.Ieee.Scale.{finite}
use Rattle.doubles.specs.Neighbour.{fmin, fmax}
use Rattle.doubles.specs.Value.{Lower, Upper, val}
use Rattle.exact.proofs.Field.{div_is}
use Rattle.exact.specs.Rational.{ℚ, ◌+q◌, ◌-q◌, ◌*q◌, ◌/q◌, inv}
use Rattle.exact.specs.Spline.{quotient}
use Rattle.interval.proofs.Contain.{point-inside, add-inside, sub-inside, mul-inside, ends-ordered, Formed, reciprocal-formed}
use Rattle.interval.specs.Inside.{Inside}
use Rattle.interval.specs.Ops.{sub_of, mul_of, new_of, reciprocal_of}
use Rattle.interval.specs.declared.Interval.{Interval}
use Rattle.interval.specs.declared.DivideError.{DivideError}
use Rattle.interval.specs.declared.DivideError.TheVariants.{HoldsZero, Unbounded}
use Rattle.jets.specs.declared.jet.Jet.{Jet}
use Rattle.jets.specs.declared.net.Control.{Control}
use Rattle.runs.specs.declared.vector.Vector.{Vector}
use Rattle.jets.specs.Three.{Three}
use Rattle.jets.specs.declared.cartesian.Bounds.{Bounds}
use Rattle.jets.specs.Net.{refuse_net}
use Rattle.jets.specs.Cartesian.{net_by, coordinate_of, box_by, cut_by, cartesian_of}
use Rattle.jets.proofs.NetIn.{Given}
use Rattle.jets.proofs.JetIn.{JetIn}

times-in : (a r : Interval) (x W : ℚ) → Inside a x → Inside r (inv W) → Inside (mul_of a r) (x /q W)
times-in a r x W i j = subst (Inside (mul_of a r)) (sym (div_is x W)) (mul-inside a r x (inv W) i j)

module _ (h weight : Jet) (r : Interval) (o : Float) {X X' X'' W W' W'' : ℚ} (i : JetIn h X X' X'') (j : JetIn weight W W' W'') (k : Inside r (inv W)) (f : T (finite o)) where
  pub coordinate-in : JetIn (coordinate_of h weight r o) (X /q W +q val o) (quotient X X' W W') (quotient X X'' W W'')
  unfolding coordinate_of quotient
  coordinate-in = record { value = add-inside _ _ _ _ q (point-inside o f); du = part h.du weight.du X' W' i.du j.du; dv = part h.dv weight.dv X'' W'' i.dv j.dv }
    where
      q : Inside (mul_of h.v r) (X /q W)
      q = times-in h.v r X W i.value k

      part : (a b : Interval) (A B : ℚ) → Inside a A → Inside b B → Inside (mul_of (sub_of a (mul_of (mul_of h.v r) b)) r) ((A -q X /q W *q B) /q W)
      part a b A B c d = times-in _ r _ W (sub-inside _ _ _ _ c (mul-inside _ _ _ _ q d)) k

pub record FinitePoint (p : Vector) : Type 0 where
  pub x : T (finite p.x)
  pub y : T (finite p.y)
  pub z : T (finite p.z)

-- each coordinate, with its two derivatives
pub record Encloses (b : Bounds) (X Y Z : Three) : Type 0 where
  pub x : JetIn b.x X.value X.du X.dv
  pub y : JetIn b.y Y.value Y.du Y.dv
  pub z : JetIn b.z Z.value Z.du Z.dv

-- or a refusal that is not 28 and not 29
abbrev pub Boxes : Result Bounds Refusal → Three → Three → Three → Type 0
Boxes (Ok b) X Y Z = Encloses b X Y Z
Boxes (Err r) X Y Z = Given (Err r)

-- the quotient of two homogeneous numbers with their derivatives, moved by o
abbrev pub over : Three → Three → ℚ → Three
over X W o = record { value = X.value /q W.value +q o; du = quotient X.value X.du W.value W.du; dv = quotient X.value X.dv W.value W.dv }

abbrev pub InThree : Jet → Three → Type 0
InThree j X = JetIn j X.value X.du X.dv

low-either : (b : Bool) (x y : Float) (W : ℚ) → Lower (x) W → Lower (y) W → Lower ((cond b x y)) W
low-either true x y W h k = h
low-either false x y W h k = k

high-either : (b : Bool) (x y : Float) (W : ℚ) → Upper (x) W → Upper (y) W → Upper ((cond b x y)) W
high-either true x y W h k = h
high-either false x y W h k = k

-- the four jets of the last point hold; W lies in the other enclosure too
pub cartesian-in : (h : Control) (o : Vector) (bound : Interval) (X Y Z W : Three) → InThree h.x X → InThree h.y Y → InThree h.z Z → InThree h.w W
    → Inside bound W.value → FinitePoint o
    → Boxes (cartesian_of h o bound) (over X W (val o.x)) (over Y W (val o.y)) (over Z W (val o.z))
unfolding cartesian_of new_of
cartesian-in h o bound X Y Z W a b c d e f = go (le lo hi) (ends-ordered lo hi W.value cut.low cut.high)
  where
    lo : Float
    lo = fmax h.w.v.lo bound.lo

    hi : Float
    hi = fmin h.w.v.hi bound.hi

    w : Interval
    w = record { lo = lo; hi = hi }

    cut : Inside w W.value
    cut = record {
      low = low-either (lt h.w.v.lo bound.lo || is_nan h.w.v.lo) bound.lo h.w.v.lo W.value e.low d.value.low;
      high = high-either (lt bound.hi h.w.v.hi || is_nan h.w.v.hi) bound.hi h.w.v.hi W.value e.high d.value.high;
    }

    box : (r : Result Interval DivideError) → Formed r (inv W.value) → Boxes (box_by h o r) (over X W (val o.x)) (over Y W (val o.y)) (over Z W (val o.z))
    box (Ok r) k = record { x = coordinate-in h.x h.w r o.x a d k f.x; y = coordinate-in h.y h.w r o.y b d k f.y; z = coordinate-in h.z h.w r o.z c d k f.z }
    box (Err HoldsZero) k = tt
    box (Err Unbounded) k = absurd k

    go : (t : Bool) → T t → Boxes (cut_by h o (cond t (Some w) None)) (over X W (val o.x)) (over Y W (val o.y)) (over Z W (val o.z))
    go true l = box (reciprocal_of w) (reciprocal-formed w W.value cut)
    go false l = absurd l

pub boxes-eq : (a : Result Bounds Refusal) (X Y Z X' Y' Z' : Three) → X ≡ X' → Y ≡ Y' → Z ≡ Z' → Boxes a X Y Z → Boxes a X' Y' Z'
boxes-eq a X Y Z X' Y' Z' e f g h = subst (λ (x : Three). Boxes a x Y' Z') e (subst (λ (y : Three). Boxes a X y Z') f (subst (λ (z : Three). Boxes a X Y z) g h))

pub three-eq : (X Y : Three) → X.value ≡ Y.value → X.du ≡ Y.du → X.dv ≡ Y.dv → X ≡ Y
three-eq X Y e f g = λ i. record { value = e i; du = f i; dv = g i }

-- a net that is refused by its places
pub refuse-in : (o : Vector) (bound : Interval) (n : Result (Unit {0}) Refusal) (a : Result Control Refusal) (X Y Z : Three) → Given n → (n ≡ Ok tt → Boxes (net_by o bound a) X Y Z)
    → Boxes (net_by o bound (refuse_net n a)) X Y Z
refuse-in o bound (Ok x) a X Y Z g h = h refl
refuse-in o bound (Err r) a X Y Z g h = g
