-- `elevation::start::elevated_count` meets its contract.
-- Assumes nothing.
use native.Mathlib.Omega.{arith}
use mathlib.Core.Path.{◌∙◌}
use borrow.Author.Tests.{eq-eqb}
use Rattle.elevation.specs.Breaks.{breaks_of}
use Rattle.elevation.specs.Whole.{elevated_count}
use Rattle.elevation.proofs.BreakWalks.{full-le}
use Rattle.elevation.proofs.Limits.{breaks-small, counted}
use Rattle.elevation.proofs.start.elevated_count.Goals as goal

pub returns-then-e-p : goal.returns-then-e-p
unfolding elevated_count
returns-then-e-p c = simp (eq-eqb c.args.e c.args.p c.if-e-p.true)

pub raised_count-requires : goal.raised_count-requires
raised_count-requires c = let a = c.args in
    let q = c.requires in
    let w = breaks-small a.p a.n a.knots.now q.p_lt_n.0 q.p_lt_n.2 in
    let v = full-le a.p a.knots.now (breaks_of a.p a.n a.knots.now) in
    let x = c.count_breaks-met.ensures.breaks in let y = c.count_breaks-met.ensures.full in (q.e_bound c.if-e-p.false, omega arith, omega arith)

pub returns : goal.returns
returns c = let a = c.args in
    let q = c.requires in
    c.raised_count.ensures ∙ counted a.p a.n a.knots.now q.p_lt_n.0 q.p_lt_n.2 a.e _ _ c.if-e-p.false c.count_breaks-met.ensures
