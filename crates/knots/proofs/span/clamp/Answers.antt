-- `knots::span::clamp` meets its contract: each return is a case of the definition; past the end of the run no comparison holds.
-- Assumes nothing.
use mathlib.Core.Path.{◌≡◌}
use mathlib.Core.Bool.{false}
use lib.Ieee.{lt}
use Rattle.doubles.specs.Run.{at}
use Rattle.knots.proofs.Answers.{clamp-low, clamp-high, clamp-in, not-under, not-over}
use Rattle.knots.proofs.span.clamp.Goals as goal
use Rattle.knots.proofs.span.clamp.Goals.{then-degree-knots+else-u-lo, else-degree-knots}

pub returns-then-u-lo : goal.returns-then-u-lo
returns-then-u-lo c = clamp-low _ _ _ _ c.if-u-lo.true

pub returns-then-u-hi : goal.returns-then-u-hi
returns-then-u-hi c = clamp-high _ _ _ _ (let low : lt c.args.u (at c.args.knots.now c.args.degree) ≡ false = elim c.if-degree-knots.branch [ then-degree-knots+else-u-lo w ↦ w.if-u-lo.false | else-degree-knots w ↦ not-under c.args.knots.now c.args.degree c.args.u w.if-degree-knots.false ] in low) c.if-u-hi.true

pub returns-else-u-hi : goal.returns-else-u-hi
returns-else-u-hi c = clamp-in _ _ _ _ (let low : lt c.args.u (at c.args.knots.now c.args.degree) ≡ false = elim c.if-degree-knots.branch [ then-degree-knots+else-u-lo w ↦ w.if-u-lo.false | else-degree-knots w ↦ not-under c.args.knots.now c.args.degree c.args.u w.if-degree-knots.false ] in low) c.if-u-hi.false

pub returns-else-count-knots : goal.returns-else-count-knots
returns-else-count-knots c = clamp-in _ _ _ _ (let low : lt c.args.u (at c.args.knots.now c.args.degree) ≡ false = elim c.if-degree-knots.branch [ then-degree-knots+else-u-lo w ↦ w.if-u-lo.false | else-degree-knots w ↦ not-under c.args.knots.now c.args.degree c.args.u w.if-degree-knots.false ] in low) (not-over c.args.knots.now c.args.count c.args.u c.if-count-knots.false)
