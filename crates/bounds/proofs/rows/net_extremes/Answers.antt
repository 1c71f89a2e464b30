use mathlib.Core.Path.{ap, ◌∙◌}
use Prim.Native.Nat.{ℕ, ◌+◌, ◌*◌}
use Rattle.runs.specs.Weight.{weight_at}
use Rattle.bounds.specs.Start.{extremes_of}
use Rattle.bounds.specs.declared.start.Extremes.{Extremes}
use Rattle.bounds.proofs.Steps.{net-none, net-more}
use Rattle.bounds.proofs.rows.net_extremes.Goals as goal

pub loop-m-init : goal.loop-m-init
loop-m-init c = c.no_extremes-found.ensures ∙ net-none (λ (i : ℕ) (j : ℕ). weight_at c.args.rational c.args.weights.now
    ((c.args.row + i) * c.args.nv + c.args.col + j)) c.args.cols

pub loop-m-preserved : goal.loop-m-preserved
loop-m-preserved c = let a = c.args in
    c.extreme_weights-found.ensures ∙ ap
    (λ (x : Extremes). extremes_of x (λ (j : ℕ). weight_at a.rational a.weights.now
    ((a.row + c.loop-m.m) * a.nv + a.col + j)) a.cols) c.loop-m.invariant ∙ net-more
    (λ (i : ℕ) (j : ℕ). weight_at a.rational a.weights.now ((a.row + i) * a.nv + a.col + j)) a.cols c.loop-m.m
