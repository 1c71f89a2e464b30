-- `basis::row::row_middle` meets its contract.
-- Assumes nothing.
use mathlib.Core.Path.{refl}
use Rattle.doubles.specs.Run.{at}
use Rattle.basis.specs.Basis.{cell}
use Rattle.basis.proofs.Rows.{places, middle-start, middle-step, middle-end}
use Rattle.basis.proofs.row.row_middle.Goals as goal

pub loop-j-init : goal.loop-j-init
loop-j-init c = let a = c.args in
    let pre = c.requires in
    let pl = places a.p a.r a.k c.first_place-j.result c.middle_end-j-end.result pre.k_nonzero pre.k_le_p pre.r_le_p c.first_place-j.ensures c.middle_end-j-end.ensures in
    (pl, middle-start (cell a.ndu.now) a.p a.r a.k (at a.from.now) pre.k_bound _ _ pl a.to.now a.s pre.to_len)

pub loop-j-preserved : goal.loop-j-preserved
loop-j-preserved c = let lo = c.loop-j in
    let a = c.args in
    let i = lo.invariant in (
      i.0,
      middle-step
          (cell a.ndu.now) a.p a.r a.k (at a.from.now) c.requires.k_bound _ _ i.0 a.to.now a.s lo.to lo.d lo.j
          c.shifted-i.result _ i.1 c.loop-j-test.true c.shifted-i.ensures refl,
    )

pub returns : goal.returns
returns c = let lo = c.loop-j in
    let a = c.args in
    let i = lo.invariant in
    middle-end
    (cell a.ndu.now) a.p a.r a.k (at a.from.now) c.requires.k_bound _ _ i.0 a.to.now a.s c.first_place-j.ensures
    c.middle_end-j-end.ensures lo.to lo.d lo.j i.1 c.loop-j-test.false
