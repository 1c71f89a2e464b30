-- `insertion::lower::non_finite_row` meets its contract: all points before the place reached are finite.
-- Assumes nothing.
use mathlib.Core.Path.{◌≡◌, sym, ◌∙◌, ap}
use native.Mathlib.Omega.{arith}
use Rattle.knots.proofs.Below.{all_none, all_more, off-ends, off-stops}
use Rattle.runs.specs.Point.{finite_vector}
use Rattle.edits.specs.Control.{vector_of}
use Rattle.insertion.proofs.lower.non_finite_row.Goals as goal

pub loop-i-init : goal.loop-i-init
loop-i-init c = (omega arith, all_none _)

pub returns-then-not-finite_vector : goal.returns-then-not-finite_vector
returns-then-not-finite_vector c = let l = c.loop-i in
    let told = c.finite_vector.ensures ∙ ap finite_vector (c.vector_of.ensures ∙ ap vector_of c.row_at.ensures) in
    sym (off-stops _ _ l.i (omega arith) l.invariant.1 (sym told ∙ c.if-not-finite_vector.true))

pub loop-i-preserved : goal.loop-i-preserved
loop-i-preserved c = let l = c.loop-i in
    let told = c.finite_vector.ensures ∙ ap finite_vector (c.vector_of.ensures ∙ ap vector_of c.row_at.ensures) in
    (omega arith, all_more _ l.i l.invariant.1 (sym told ∙ c.if-not-finite_vector.false))

pub returns : goal.returns
returns c = let l = c.loop-i in
    let e : c.args.m ≡ l.i = omega (arith, l.invariant.0) in e ∙ off-ends _ _ l.i (sym e) l.invariant.1
