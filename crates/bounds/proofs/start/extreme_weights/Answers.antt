use mathlib.Core.Path.{◌≡◌, refl, sym, ap₂, ◌∙◌}
use native.Mathlib.Omega.{arith}
use Prim.Native.Nat.{ℕ, ◌+◌}
use Rattle.bounds.specs.Start.{min_from, max_from, extremes_of}
use Rattle.runs.specs.Weight.{weight_at}
use Rattle.doubles.specs.Neighbour.{fmin, fmax}
use Rattle.bounds.proofs.Steps.{max-more, min-more}
use Rattle.bounds.proofs.start.extreme_weights.Goals as goal

pub loop-m-init : goal.loop-m-init
unfolding min_from max_from
loop-m-init c = (refl, refl)

pub loop-m-preserved : goal.loop-m-preserved
loop-m-preserved c = (
  c.min-least.ensures ∙ ap₂ fmin c.loop-m.invariant.0 c.weight_at-w.ensures ∙ sym
      (min-more c.args.from.least
      (λ (k : ℕ). weight_at c.args.rational c.args.weights.now
      (c.args.first + k)) c.loop-m.m),
  c.max-most.ensures ∙ ap₂ fmax
      c.loop-m.invariant.1 c.weight_at-w.ensures ∙ sym
      (max-more c.args.from.most
      (λ (k : ℕ). weight_at c.args.rational c.args.weights.now
      (c.args.first + k)) c.loop-m.m),
)

pub returns : goal.returns
unfolding extremes_of
returns c = let e : c.loop-m.m ≡ c.args.count = omega arith in rw (c.loop-m.invariant.0, c.loop-m.invariant.1, e)
