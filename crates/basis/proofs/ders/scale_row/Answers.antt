-- `basis::ders::scale_row` meets its contract.
-- Assumes nothing.
use mathlib.Core.Path.{◌≡◌}
use native.Mathlib.Omega.{arith}
use Rattle.basis.proofs.Factors.{scale-more, scale-end}
use Rattle.basis.proofs.ders.scale_row.Goals as goal

pub loop-j-preserved : goal.loop-j-preserved
loop-j-preserved c = let lo = c.loop-j in
    let a = c.args in
    scale-more a.k a.p c.requires.k_bound c.requires.p_bound a.f a.ders.now lo.ders lo.j (omega arith) lo.invariant

pub returns-2 : goal.returns-2
returns-2 c = let lo = c.loop-j in
    let a = c.args in
    let e : lo.j ≡ a.p = omega arith in
    scale-end a.k a.p c.requires.k_bound c.requires.p_bound a.f a.ders.now _
    (rw (← e) (scale-more a.k a.p c.requires.k_bound c.requires.p_bound a.f a.ders.now lo.ders lo.j (omega arith) lo.invariant))
