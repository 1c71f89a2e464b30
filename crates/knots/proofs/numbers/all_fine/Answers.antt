-- `knots::numbers::all_fine` meets its contract: the numbers passed are fine.
-- Assumes nothing.
use mathlib.Core.Path.{◌≡◌, refl, ◌∙◌, ap, ap₂}
use mathlib.Core.Bool.{Bool, true, false, ◌&&◌}
use mathlib.Core.List.{List}
use native.Mathlib.Omega.{arith}
use lib.ListN.{length}
use lib.Ieee.{Float, lt}
use lib.Ieee.Scale.{finite}
use Rattle.doubles.specs.Run.{at}
use Rattle.doubles.specs.Value.{zero+}
use Rattle.knots.specs.Below.{all_below}
use Rattle.knots.specs.Knots.{all_finite}
use Rattle.knots.specs.Curve.{is_weight, all_weights}
use Rattle.knots.specs.Fine.{above as above_of, all_fine}
use Rattle.knots.proofs.Below.{all-step, both_below, true_below}
use Rattle.knots.proofs.numbers.all_fine.Goals as goal

all-fine : (weight : Bool) (xs : List Float) → (all_below (λ k. finite (at xs k)) (length xs) && all_below (λ k. above_of weight (at xs k)) (length xs)) ≡ all_fine weight xs
unfolding all_finite all_weights is_weight
all-fine true xs = both_below (λ k. finite (at xs k)) (λ k. lt zero+ (at xs k)) (length xs)
all-fine false xs = ap (λ (b : Bool). all_below (λ k. finite (at xs k)) (length xs) && b) (true_below (length xs)) ∙ and_one (all_below (λ k. finite (at xs k)) (length xs))
  where
    and_one : (b : Bool) → (b && true) ≡ b
    and_one true = refl
    and_one false = refl

pub loop-x-init : goal.loop-x-init
unfolding all_below
loop-x-init c = record { finite = refl; above = refl }

pub loop-x-preserved : goal.loop-x-preserved
loop-x-preserved c = let a = c.args in let l = c.loop-x in record {
  finite = all-step (λ k. finite (at a.xs.now k)) l.x-index _ _ l.invariant.finite c.is_finite-finite.ensures;
  above = all-step (λ k. above_of a.weight (at a.xs.now k)) l.x-index _ _ l.invariant.above c.is_above-above.ensures;
}

pub returns : goal.returns
returns c = let a = c.args in let l = c.loop-x in let e : l.x-index ≡ length a.xs.now = omega arith in
    ap₂ ◌&&◌ (l.invariant.finite ∙ ap (all_below (λ k. finite (at a.xs.now k))) e) (l.invariant.above ∙ ap (all_below (λ k. above_of a.weight (at a.xs.now k))) e) ∙ all-fine a.weight a.xs.now
