-- `drawing::extremes::extreme` meets its contract.
-- Assumes nothing.
use Prim.Native.Nat.{◌/◌}
use mathlib.Core.Path.{◌≡◌, ◌∙◌, ap}
use mathlib.Core.Bool.{cond}
use native.Mathlib.Omega.{arith}
use lib.ListN.{length}
use lib.Ieee.{Float}
use Rattle.doubles.specs.Neighbour.{fmin, fmax}
use Rattle.drawing.specs.Drawing.{least_of, greatest_of}
use Rattle.drawing.proofs.Outermost.{extreme_from, extreme-none, extreme-more}
use mathlib.Core.Path.{ap₂}
use Rattle.runs.specs.Coordinate.{coordinate}
use Rattle.drawing.proofs.extremes.extreme.Goals as goal

pub loop-i-init : goal.loop-i-init
loop-i-init c = c.start-found.ensures ∙ extreme-none c.args.up (λ j. coordinate c.args.points.now j c.args.k)

pub loop-i-preserved : goal.loop-i-preserved
loop-i-preserved c = let a = c.args in
    let l = c.loop-i in
    c.outer-found.ensures
    ∙ ap₂ (λ (y x : Float). cond a.up (fmax y x) (fmin y x)) l.invariant c.coordinate_at.ensures
    ∙ extreme-more a.up (λ j. coordinate a.points.now j a.k) l.i

pub returns : goal.returns
unfolding least_of greatest_of
returns c = let a = c.args in
    let e : c.loop-i.i ≡ length a.points.now / 3 = omega arith in c.loop-i.invariant ∙ ap (extreme_from a.up (λ j. coordinate a.points.now j a.k)) e
