-- `knots::span::is_outside` meets its contract: past the end of the run no comparison holds.
-- Assumes nothing.
use mathlib.Core.Path.{◌≡◌, sym, ◌∙◌}
use mathlib.Core.Bool.{false}
use lib.Ieee.{lt}
use Rattle.doubles.specs.Run.{at}
use Rattle.knots.proofs.Answers.{outside_low, outside_high, not-under, not-over}
use Rattle.knots.proofs.span.is_outside.Goals as goal
use Rattle.knots.proofs.span.is_outside.Goals.{then-degree-knots+else-u-knots, else-degree-knots}

pub returns-then-u-knots : goal.returns-then-u-knots
returns-then-u-knots c = outside_low _ _ _ _ c.if-u-knots.true

pub returns-then-count-knots : goal.returns-then-count-knots
returns-then-count-knots c = outside_high _ _ _ _ (let low : lt c.args.u (at c.args.knots.now c.args.degree) ≡ false = elim c.if-degree-knots.branch [ then-degree-knots+else-u-knots w ↦ w.if-u-knots.false | else-degree-knots w ↦ not-under c.args.knots.now c.args.degree c.args.u w.if-degree-knots.false ] in low)

pub returns : goal.returns
returns c = let a = c.args in
    sym (not-over a.knots.now a.count a.u c.if-count-knots.false) ∙ outside_high _ _ _ _ (let low : lt c.args.u (at c.args.knots.now c.args.degree) ≡ false = elim c.if-degree-knots.branch [ then-degree-knots+else-u-knots w ↦ w.if-u-knots.false | else-degree-knots w ↦ not-under c.args.knots.now c.args.degree c.args.u w.if-degree-knots.false ] in low)
