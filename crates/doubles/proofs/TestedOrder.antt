-- The order of finite doubles as a program's tests tell it: `lt x y ≡ true` where the test passed, `≡ false` where it failed. Assumes nothing.
use mathlib.Core.Path.{◌≡◌, sym, ap, ◌∙◌}
use mathlib.Core.Bool.{true, false, not}
use lib.Ieee.{Float, lt, le}
use lib.Ieee.Scale.{finite}
use lib.Ieee.Bits.{is_true, is_false}
use borrow.Author.Tests.{not-true, not-false}
use Rattle.doubles.specs.Value.{Number}
use Rattle.doubles.proofs.TestFacts.{T_of, Tn-of}
use Rattle.doubles.proofs.Order as Order

number : (x : Float) → finite x ≡ true → Number x
number x h = Order.finite_number x (T_of (finite x) h)

pub lt_trans : (x y z : Float) → lt x y ≡ true → lt y z ≡ true → lt x z ≡ true
lt_trans x y z h k = is_true (lt x z) (Order.lt_trans x y z (T_of (lt x y) h) (T_of (lt y z) k))

pub lt-asym : (x y : Float) → lt x y ≡ true → lt y x ≡ false
lt-asym x y h = is_false (lt y x) (Order.lt-asym x y (T_of (lt x y) h))

pub lt_irrefl : (x : Float) → lt x x ≡ false
lt_irrefl x = is_false (lt x x) (Order.lt_irrefl x)

-- not x < y, not y < z : not x < z
pub ge_trans : (x y z : Float) → finite y ≡ true → lt x y ≡ false → lt y z ≡ false → lt x z ≡ false
ge_trans x y z Y h k = is_false (lt x z) (Order.⊑_trans z y x (number y Y) (Tn-of (lt y z) k) (Tn-of (lt x y) h))

-- x < y, not z < y : x < z
pub lt-ge-trans : (x y z : Float) → finite z ≡ true → lt x y ≡ true → lt z y ≡ false → lt x z ≡ true
lt-ge-trans x y z Z h k = is_true (lt x z) (Order.lt-⊑ x y z (number z Z) (T_of (lt x y) h) (Tn-of (lt z y) k))

-- not y < x, y < z : x < z
pub ge-lt-trans : (x y z : Float) → finite x ≡ true → lt y x ≡ false → lt y z ≡ true → lt x z ≡ true
ge-lt-trans x y z X h k = is_true (lt x z) (Order.⊑-lt x y z (number x X) (Tn-of (lt y x) h) (T_of (lt y z) k))

pub le_is : (x y : Float) → finite x ≡ true → finite y ≡ true → le x y ≡ not (lt y x)
le_is x y X Y = Order.le_is x y (number x X) (number y Y)

pub le-gives : (x y : Float) → finite x ≡ true → finite y ≡ true → le x y ≡ true → lt y x ≡ false
le-gives x y X Y h = not-true (lt y x) (sym (le_is x y X Y) ∙ h)

pub le-fails : (x y : Float) → finite x ≡ true → finite y ≡ true → le x y ≡ false → lt y x ≡ true
le-fails x y X Y h = not-false (lt y x) (sym (le_is x y X Y) ∙ h)

pub ge-le : (x y : Float) → finite x ≡ true → finite y ≡ true → lt y x ≡ false → le x y ≡ true
ge-le x y X Y h = le_is x y X Y ∙ ap not h
