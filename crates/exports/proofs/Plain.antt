-- Where nothing is refused, a definition gives `accepted` and nothing else, so that its packed number is 0.
-- Assumes nothing.
use Prim.Native.Nat.{ℕ}
use mathlib.Core.Bool.{Bool, true, false, not, cond}
use mathlib.Core.Path.{◌≡◌, refl}
use mathlib.Core.List.{List}
use lib.Dec.{eqb}
use lib.Ieee.{Float}
use borrow.Author.Tests.{eqb-false}
use native.Mathlib.Omega.{arith}
use Rattle.knots.specs.declared.refusal.Refusal.{Refusal}
use Rattle.knots.specs.Refusal.{accepted, refuse, or_else, along}
use Rattle.knots.specs.declared.refusal.Reason.TheVariants.{IsoWeightBad}
use Rattle.knots.specs.Knots.{knot_refusal}
use Rattle.knots.specs.Curve.{count_of, control_refusal, formed_refusal, curve_refusal}
use Rattle.knots.specs.Surface.{net_refusal, surface_refusal}
use Rattle.knots.proofs.Curves.{valid-controls, controls-not-refused, valid-curve, curve-not-refused}
use Rattle.made.specs.Reverse.{reverse_refusal, reverse_formed, reverse_start}
use Rattle.made.specs.IsoCurve.{iso_refusal, iso_start, along_refusal}

abbrev pub Plain : Refusal → Type 0
Plain r = r.number ≡ 0 → r ≡ accepted

or_else-plain : (a b : Refusal) → Plain b → Plain (or_else a b)
or_else-plain a b f = go (eqb a.number 0) refl
  where
    go : (t : Bool) → eqb a.number 0 ≡ t → (cond t b a).number ≡ 0 → cond t b a ≡ accepted
    go true e h = f h
    go false e h = absurd (eqb-false a.number 0 e h)

row-plain : (b : Bool) (r x : Refusal) → (r.number ≡ 0 → ⊥) → Plain x → Plain (cond b r x)
row-plain true r x n f h = absurd (n h)
row-plain false r x n f h = f h

control-plain : (n : ℕ) (ps : List Float) (g : Bool) (ws : List Float) → Plain (control_refusal n ps g ws)
control-plain n ps g ws h = controls-not-refused n ps g ws (valid-controls n ps g ws h)

formed-plain : (p n : ℕ) (ks ps : List Float) (g : Bool) (ws : List Float) → Plain (formed_refusal p n ks ps g ws)
unfolding formed_refusal
formed-plain p n ks ps g ws = or_else-plain (knot_refusal p n ks) _ (control-plain n ps g ws)

pub curve-plain : (p : ℕ) (ks ps : List Float) (g : Bool) (ws : List Float) → Plain (curve_refusal p ks ps g ws)
curve-plain p ks ps g ws h = curve-not-refused p ks ps g ws (valid-curve p ks ps g ws h)

pub surface-plain : (p q : ℕ) (us vs : List Float) (m n : ℕ) (ps : List Float) (g : Bool) (ws : List Float) → Plain (surface_refusal p q us vs m n ps g ws)
unfolding surface_refusal
surface-plain p q us vs m n ps g ws =
    or_else-plain (net_refusal us vs m n ps g ws) _
    (or_else-plain (along 0 (knot_refusal p m us)) _
    (or_else-plain (along 1 (knot_refusal q n vs)) _ (control-plain (count_of ps) ps g ws)))

pub reverse-plain : (p : ℕ) (ks ps : List Float) (g : Bool) (ws : List Float) (a b c : ℕ) → Plain (reverse_refusal p ks ps g ws a b c)
unfolding reverse_refusal reverse_formed
reverse-plain p ks ps g ws a b c = or_else-plain (reverse_start p ks ps g ws a b c) _ (formed-plain p _ _ _ g _)

pub iso-plain : (p q : ℕ) (us vs : List Float) (m n : ℕ) (ps : List Float) (g : Bool) (ws : List Float) (u : Bool) (t : Float) (a b : ℕ) → Plain (iso_refusal p q us vs m n ps g ws u t a b)
unfolding iso_refusal along_refusal
iso-plain p q us vs m n ps g ws u t a b =
    or_else-plain (iso_start p q us vs m n ps g ws u t a b) _ (row-plain _ (refuse IsoWeightBad) _ (λ (e : 23 ≡ 0). omega arith) (formed-plain _ _ _ _ true _))
