-- A jet of intervals holds a fraction and its two derivatives. Each operation of the source keeps that. Assumes nothing.
use mathlib.Core.Path.{◌≡◌, subst}
use Rattle.doubles.proofs.Value.{val-zero, val-one}
use Rattle.doubles.specs.Value.{zero+, one+, val, Lower, Upper}
use Rattle.exact.specs.Rational.{ℚ, ◌+q◌, ◌-q◌, ◌*q◌, q0, q1, ◌≤q◌}
use Rattle.interval.proofs.Contain.{point-inside, add-inside, sub-inside, mul-inside}
use Rattle.interval.specs.Inside.{Inside}
use Rattle.interval.specs.Ops.{point_of}
use Rattle.interval.specs.declared.Interval.{Interval}
use Rattle.jets.specs.declared.jet.Jet.{Jet}
use Rattle.jets.specs.Jet.{constant_of, jet_sub, jet_add, jet_mul, jet_scale, parameter_of, second_of}
use Rattle.jets.specs.Net.{mix_jet}
use lib.Dec.{T}
use lib.Ieee.{Float, inf, nan, fin}
use lib.Ieee.Scale.{finite}

pub record JetIn (j : Jet) (x u v : ℚ) : Type 0 where
  pub value : Inside j.v x
  pub du : Inside j.du u
  pub dv : Inside j.dv v

pub in-zero : Inside (point_of zero+) q0
in-zero = subst (Inside (point_of zero+)) val-zero (point-inside zero+ tt)

pub in_one : Inside (point_of one+) q1
in_one = subst (Inside (point_of one+)) val-one (point-inside one+ tt)

pub jet-eq : {j : Jet} {x u v x' u' v' : ℚ} → x ≡ x' → u ≡ u' → v ≡ v' → JetIn j x u v → JetIn j x' u' v'
jet-eq {j} a b c h = record { value = subst (Inside j.v) a h.value; du = subst (Inside j.du) b h.du; dv = subst (Inside j.dv) c h.dv }

pub jet-const : (a : Interval) {x : ℚ} → Inside a x → JetIn (constant_of a) x q0 q0
unfolding constant_of
jet-const a h = record { value = h; du = in-zero; dv = in-zero }

module _ (a b : Jet) {x u v y s t : ℚ} (h : JetIn a x u v) (k : JetIn b y s t) where
  pub jet-sub : JetIn (jet_sub a b) (x -q y) (u -q s) (v -q t)
  unfolding jet_sub
  jet-sub = record { value = sub-inside _ _ _ _ h.value k.value; du = sub-inside _ _ _ _ h.du k.du; dv = sub-inside _ _ _ _ h.dv k.dv }

  pub jet-add : JetIn (jet_add a b) (x +q y) (u +q s) (v +q t)
  unfolding jet_add
  jet-add = record { value = add-inside _ _ _ _ h.value k.value; du = add-inside _ _ _ _ h.du k.du; dv = add-inside _ _ _ _ h.dv k.dv }

  pub jet-mul : JetIn (jet_mul a b) (x *q y) (u *q y +q x *q s) (v *q y +q x *q t)
  unfolding jet_mul
  jet-mul = record {
    value = mul-inside _ _ _ _ h.value k.value;
    du = add-inside _ _ _ _ (mul-inside _ _ _ _ h.du k.value) (mul-inside _ _ _ _ h.value k.du);
    dv = add-inside _ _ _ _ (mul-inside _ _ _ _ h.dv k.value) (mul-inside _ _ _ _ h.value k.dv);
  }

pub jet-scale : (a : Jet) (b : Interval) {x u v y : ℚ} → JetIn a x u v → Inside b y → JetIn (jet_scale a b) (x *q y) (u *q y) (v *q y)
unfolding jet_scale
jet-scale a b h k = record { value = mul-inside _ _ _ _ h.value k; du = mul-inside _ _ _ _ h.du k; dv = mul-inside _ _ _ _ h.dv k }

-- (1 - A) x + A y, with its derivatives
pub jet-mix : (α a b : Jet) {A B C x u v y s t : ℚ} → JetIn α A B C → JetIn a x u v → JetIn b y s t
    → JetIn (mix_jet α a b) ((q1 -q A) *q x +q A *q y) (((q0 -q B) *q x +q (q1 -q A) *q u) +q (B *q y +q A *q s)) (((q0 -q C) *q x +q (q1 -q A) *q v) +q (C *q y +q A *q t))
unfolding mix_jet
jet-mix α a b h k l = jet-add _ _ (jet-mul _ _ (jet-sub _ _ (jet-const (point_of one+) in_one) h) k) (jet-mul _ _ h l)

-- ---- a parameter of a closed range

pub low_of : (x : Float) (t : ℚ) → T (finite x) → val x ≤q t → Lower x t
low_of nan t f h = absurd f
low_of (inf s) t f h = absurd f
low_of (fin s m e) t f h = h

pub high-of : (x : Float) (t : ℚ) → T (finite x) → t ≤q val x → Upper x t
high-of nan t f h = absurd f
high-of (inf s) t f h = absurd f
high-of (fin s m e) t f h = h

pub param_in : (lo hi : Float) (t : ℚ) → T (finite lo) → T (finite hi) → val lo ≤q t → t ≤q val hi → JetIn (parameter_of (record { lo = lo; hi = hi })) t q1 q0
unfolding parameter_of
param_in lo hi t f g a b = record { value = record { low = low_of lo t f a; high = high-of hi t g b }; du = in_one; dv = in-zero }

pub second-in : (lo hi : Float) (t : ℚ) → T (finite lo) → T (finite hi) → val lo ≤q t → t ≤q val hi → JetIn (second_of (record { lo = lo; hi = hi })) t q0 q1
unfolding second_of
second-in lo hi t f g a b = record { value = record { low = low_of lo t f a; high = high-of hi t g b }; du = in-zero; dv = in_one }
