-- A refusal is known by its number: with the place that the number asks for it is the whole.
-- Assumes nothing.
use Prim.Native.Nat.{ℕ, ◌+◌, ◌*◌, ◌%◌}
use mathlib.Core.Bool.{Bool, true, not, ◌&&◌, ◌||◌}
use mathlib.Core.Path.{◌≡◌, refl, ◌∙◌, ap}
use mathlib.Core.List.{List}
use lib.ListN.{length}
use lib.Dec.{leb, eqb}
use lib.Ieee.{Float, binary64, sub, le}
use lib.Ieee.Scale.{finite}
use Rattle.doubles.specs.Run.{at}
use Rattle.knots.specs.Refusal.{numbered}
use Rattle.knots.specs.Knots.{all_finite, ordered, apart, order_refusal, knot_refusal}
use Rattle.knots.specs.Curve.{over_long, any_long, all_weights, count_of, control_refusal}
use Rattle.knots.specs.Surface.{net_refusal}
use Rattle.knots.specs.Span.{outside, domain_refusal, span_refusal}
use Rattle.knots.specs.Placed.{knot_placed, control_placed}
use Rattle.knots.specs.declared.refusal.Refusal.{Refusal}
use Rattle.knots.proofs.Refusals.{row-both}

-- f makes the whole of the number
abbrev Told : (ℕ → Refusal) → Refusal → Type 0
Told f r = f r.number ≡ r

knot-own : (p n : ℕ) (ks : List Float) → knot_placed (knot_refusal p n ks).number p ks ≡ knot_refusal p n ks
unfolding knot_refusal order_refusal knot_placed
knot-own p n ks =
    let f : ℕ → Refusal = λ k. knot_placed k p ks in
    row-both (Told f) (eqb p 0) _ _ refl
    (row-both (Told f) (leb n p) _ _ refl
    (row-both (Told f) (not (eqb (length ks) (n + p + 1))) _ _ refl
    (row-both (Told f) (not (ordered ks)) _ _ refl
    (row-both (Told f) (le (at ks n) (at ks p)) _ _ refl
    (row-both (Told f) (not (finite (sub binary64 (at ks n) (at ks p)))) _ _ refl
    (row-both (Told f) (not (apart (p + 1) ks)) _ _ refl refl))))))

pub knot-told : (p n : ℕ) (ks : List Float) {k : ℕ} → k ≡ (knot_refusal p n ks).number → knot_placed k p ks ≡ knot_refusal p n ks
knot-told p n ks e = ap (λ (k : ℕ). knot_placed k p ks) e ∙ knot-own p n ks

pub net-told : (us vs : List Float) (m n : ℕ) (ps : List Float) (g : Bool) (ws : List Float) {k : ℕ} → k ≡ (net_refusal us vs m n ps g ws).number → numbered k ≡ net_refusal us vs m n ps g ws
unfolding net_refusal
net-told us vs m n ps g ws e =
    ap numbered e ∙ row-both (Told numbered) (over_long true us || any_long vs ps g ws) _ _ refl
    (row-both (Told numbered) (not (eqb (length ps % 3) 0)) _ _ refl (row-both (Told numbered) (not (eqb (count_of ps) (m * n))) _ _ refl refl))

pub span-told : (c : Bool) (p n : ℕ) (ks : List Float) (u : Float) {k : ℕ} → k ≡ (span_refusal c p n ks u).number → knot_placed k p ks ≡ span_refusal c p n ks u
unfolding span_refusal domain_refusal knot_placed
span-told c p n ks u e =
    let f : ℕ → Refusal = λ k. knot_placed k p ks in
    ap f e ∙ row-both (Told f) (over_long true ks) _ _ refl
    (row-both (Told f) (eqb (knot_refusal p n ks).number 0) _ _
    (row-both (Told f) (not (finite u)) _ _ refl (row-both (Told f) (not c && outside p n ks u) _ _ refl refl)) (knot-own p n ks))

pub control-told : (n : ℕ) (ps : List Float) (g : Bool) (ws : List Float) {k : ℕ} → k ≡ (control_refusal n ps g ws).number → control_placed k ps ws ≡ control_refusal n ps g ws
unfolding control_refusal control_placed
control-told n ps g ws e =
    let f : ℕ → Refusal = λ k. control_placed k ps ws in
    ap f e ∙ row-both (Told f) (not (all_finite ps)) _ _ refl
    (row-both (Told f) (g && not (eqb (length ws) n)) _ _ refl (row-both (Told f) (g && not (all_weights ws)) _ _ refl refl))
