-- `elevation::put_knots::put_breaks` meets its contract.
-- Assumes nothing.
use borrow.Author.Rules.{rules}
use native.Mathlib.Omega.{arith}
use Prim.Native.Nat.{ℕ, ◌+◌}
use mathlib.Core.Path.{◌∙◌, ap}
use mathlib.Core.Bool.{Bool}
use Rattle.edits.specs.Counts.{bit}
use Rattle.elevation.proofs.Overlaid.{filled}
use Rattle.elevation.proofs.KnotWalks.{knots-room, knots-more, knots-end}
use Rattle.elevation.proofs.put_knots.put_breaks.Goals as goal

pub slice_bounds-fill-end : goal.slice_bounds-fill-end
slice_bounds-fill-end c = let r =
    knots-room _ _ _ _ _ _ _ _ _ c.loop-t.invariant c.requires.knots_in_bounds _ _ c.in-Some.ensures.steps _
    (ap (λ (x : ℕ). c.args.e + x) (c.bit_of.ensures ∙ ap (λ (b : Bool). bit b) c.is_full.ensures)) in
    search rules

pub loop-t-preserved : goal.loop-t-preserved
loop-t-preserved c = let I = c.loop-t.invariant in
    let q = c.requires.knots_in_bounds in
    let T = c.in-Some.ensures.steps in
    let M = ap (λ (x : ℕ). c.args.e + x) (c.bit_of.ensures ∙ ap (λ (b : Bool). bit b) c.is_full.ensures) in
    let r = knots-room _ _ _ _ _ _ _ _ _ I q _ _ T _ M in
    knots-more _ _ _ _ _ _ _ _ _ I q _ _ T _ M _ (filled c.loop-t.at _ _ _ _ _ (omega arith) r (c.fill.ensures.after (λ y h. h)))

pub returns : goal.returns
returns c = knots-end _ _ _ _ _ _ _ _ _ c.loop-t.invariant c.in-None.ensures.steps.0
