-- Small facts on tests, and a double compared with itself. Assumes nothing.
use mathlib.Core.Path.{◌≡◌, refl, sym, ap, ◌∙◌, subst}
use mathlib.Core.Logic.{◌⊎◌, inl, inr}
use Prim.Native.Nat.{◌*◌}
use mathlib.Core.Bool.{Bool, true, false, not, ◌&&◌, ◌||◌}
use lib.Dec.{T, eqb, eqb_refl}
use lib.Ieee.{Float, nan, inf, fin, up, down, eq, ne, is_nan, neg}
use lib.Ieee.Bits.{is_true}

pub T_of : (b : Bool) → b ≡ true → T b
T_of true e = tt
T_of false e = subst T (sym e) tt

pub Tn-of : (b : Bool) → b ≡ false → T (not b)
Tn-of false e = tt
Tn-of true e = subst (λ (x : Bool). T (not x)) (sym e) tt

pub yes_or_no : (a : Bool) → T a ⊎ T (not a)
yes_or_no true = inl tt
yes_or_no false = inr tt

-- two tests that pass together are one
pub same_test : (a b : Bool) → (T a → T b) → (T b → T a) → a ≡ b
same_test true true p q = refl
same_test true false p q = absurd (p tt)
same_test false true p q = absurd (q tt)
same_test false false p q = refl

pub or_l : (a b : Bool) → T a → T (a || b)
or_l true b t = tt
or_l false b t = absurd t

pub or_r : (a b : Bool) → T b → T (a || b)
or_r true b t = tt
or_r false b t = t

pub or_split : (a b : Bool) → T (a || b) → T a ⊎ T b
or_split true b t = inl tt
or_split false b t = inr t

pub eq_self : (x : Float) → eq x x ≡ not (is_nan x)
unfolding eq is_nan
eq_self nan = refl
eq_self (inf true) = refl
eq_self (inf false) = refl
eq_self (fin true m e) = ap (λ (b : Bool). b && true) (is_true (eqb (m * up e * down e) (m * up e * down e)) (eqb_refl (m * up e * down e)))
eq_self (fin false m e) = ap (λ (b : Bool). b && true) (is_true (eqb (m * up e * down e) (m * up e * down e)) (eqb_refl (m * up e * down e)))

not-not : (b : Bool) → not (not b) ≡ b
not-not true = refl
not-not false = refl

pub ne-self : (x : Float) → ne x x ≡ is_nan x
unfolding ne
ne-self x = ap not (eq_self x) ∙ not-not (is_nan x)

pub neg-neg : (x : Float) → neg (neg x) ≡ x
unfolding neg
neg-neg nan = refl
neg-neg (inf true) = refl
neg-neg (inf false) = refl
neg-neg (fin true m e) = refl
neg-neg (fin false m e) = refl

pub nan-no : (x : Float) → eq x x ≡ true → is_nan x ≡ false
nan-no x e = sym (not-not (is_nan x)) ∙ ap not (sym (eq_self x) ∙ e)

pub nan-yes : (x : Float) → eq x x ≡ false → is_nan x ≡ true
nan-yes x e = sym (not-not (is_nan x)) ∙ ap not (sym (eq_self x) ∙ e)
