-- `basis::ders::raw_derivatives` meets its contract.
-- Assumes nothing.
use Prim.Native.Nat.{ℕ, ◌+◌}
use mathlib.Core.Path.{◌≡◌, subst}
use native.Mathlib.Omega.{arith}
use Rattle.basis.specs.Basis.{cell, left_of, right_of}
use Rattle.basis.proofs.AllDers.{InDers, ders-more, ders-end}
use Rattle.basis.proofs.ders.raw_derivatives.Goals as goal
use Rattle.basis.proofs.ders.raw_derivatives.Goals.{After-function_ders}

-- the functions up to this turn's
more : (c : After-function_ders) → InDers (cell c.table.new.ndu) c.args.p c.args.n c.args.ders.now c.function_ders.new.ders (c.loop-r.r + 1)
more c = let lo = c.loop-r in
    ders-more
    (cell c.table.new.ndu) c.args.p c.args.n c.requires.p_bound c.args.ders.now c.requires.p_nonzero lo.r (omega arith) lo.ders c.function_ders.new.ders
    lo.invariant c.function_ders.ensures

pub loop-r-preserved : goal.loop-r-preserved
loop-r-preserved c = more (goal.at.loop-r-preserved c).After-function_ders

pub returns-2 : goal.returns-2
returns-2 c = let lo = c.loop-r in
    let a = c.args in
    let t = c.table.new.ndu in
    let e : lo.r ≡ a.p = omega arith in
    ders-end a.p a.n (left_of a.knots.now a.span a.u) (right_of a.knots.now a.span a.u) t c.table.ensures a.ders.now c.function_ders.new.ders
    (subst (λ (m : ℕ). InDers (cell t) a.p a.n a.ders.now c.function_ders.new.ders (m + 1)) e (more (goal.at.returns-2 c).After-function_ders))
