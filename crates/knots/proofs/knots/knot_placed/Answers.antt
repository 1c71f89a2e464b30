-- `knots::knots::knot_placed` meets its contract.
-- Assumes nothing.
use Prim.Native.Nat.{ℕ}
use mathlib.Core.Path.{◌∙◌, ap}
use borrow.Author.Tests.{eq-eqb, ne_eqb}
use Rattle.knots.specs.Refusal.{numbered, placed}
use Rattle.knots.specs.Placed.{knot_placed}
use Rattle.knots.proofs.knots.knot_placed.Goals as goal

pub returns-then-number-eq4 : goal.returns-then-number-eq4
unfolding knot_placed
returns-then-number-eq4 c = let number = c.args.number in
    c.refuse_at.ensures ∙ (ap (λ (k : ℕ). placed k (numbered number)) c.unordered_at.ensures ∙ simp (eq-eqb _ 4 c.if-number-eq4.true))

pub returns-then-number-eq7 : goal.returns-then-number-eq7
unfolding knot_placed
returns-then-number-eq7 c = let number = c.args.number in
    let other = ne_eqb _ 4 c.if-number-eq4.false in
    let this = eq-eqb _ 7 c.if-number-eq7.true in
    c.refuse_at-then-number-eq7.ensures ∙ (ap (λ (k : ℕ). placed k (numbered number)) c.repeated_at.ensures ∙ simp (other, this))

pub returns : goal.returns
unfolding knot_placed
returns c = c.refuse.ensures ∙ simp (ne_eqb _ 4 c.if-number-eq4.false, ne_eqb _ 7 c.if-number-eq7.false)
