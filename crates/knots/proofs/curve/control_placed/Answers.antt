-- `knots::curve::control_placed` meets its contract.
-- Assumes nothing.
use Prim.Native.Nat.{ℕ, ◌/◌}
use mathlib.Core.Path.{◌∙◌, ap}
use borrow.Author.Tests.{eq-eqb, ne_eqb}
use Rattle.knots.specs.Refusal.{numbered, placed}
use Rattle.knots.specs.Placed.{control_placed}
use Rattle.knots.proofs.curve.control_placed.Goals as goal

pub returns-then-number-eq8 : goal.returns-then-number-eq8
unfolding control_placed
returns-then-number-eq8 c = let number = c.args.number in
    c.refuse_at.ensures ∙ (ap (λ (k : ℕ). placed (k / 3) (numbered number)) c.non_finite_at.ensures ∙ simp (eq-eqb _ 8 c.if-number-eq8.true))

pub returns-then-number-eq10 : goal.returns-then-number-eq10
unfolding control_placed
returns-then-number-eq10 c = let number = c.args.number in
    let other = ne_eqb _ 8 c.if-number-eq8.false in
    let this = eq-eqb _ 10 c.if-number-eq10.true in
    c.refuse_at-then-number-eq10.ensures ∙ (ap (λ (k : ℕ). placed k (numbered number)) c.bad_weight_at.ensures ∙ simp (other, this))

pub returns : goal.returns
unfolding control_placed
returns c = c.refuse.ensures ∙ simp (ne_eqb _ 8 c.if-number-eq8.false, ne_eqb _ 10 c.if-number-eq10.false)
