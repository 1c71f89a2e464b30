-- `basis::row::row` meets its contract.
-- Assumes nothing.
use mathlib.Core.Path.{refl}
use Rattle.doubles.specs.Run.{at}
use Rattle.basis.specs.Basis.{cell}
use Rattle.basis.proofs.Rows.{row-short, row-whole}
use Rattle.basis.proofs.row.row.Goals as goal

pub returns-then-pk-r : goal.returns-then-pk-r
returns-then-pk-r c = let a = c.args in
    let pre = c.requires in
    let rs = c.row_start-s in
    let rm = c.row_middle-d in
    row-short
    (cell a.ndu.now) a.p a.r a.k (at a.from.now) pre.k_nonzero pre.k_le_p pre.k_bound pre.r_le_p rs.new.to rs.result
    rm.new.to rm.result rs.ensures.coefs rs.ensures.sum rm.ensures c.if-pk-r.true

pub returns : goal.returns
returns c = let a = c.args in
    let pre = c.requires in
    let rs = c.row_start-s in
    let rm = c.row_middle-d in
    row-whole
    (cell a.ndu.now) a.p a.r a.k (at a.from.now) pre.k_nonzero pre.k_le_p pre.k_bound pre.r_le_p rs.new.to rs.result
    rm.new.to rm.result _ rs.ensures.coefs rs.ensures.sum rm.ensures c.if-pk-r.false refl
