-- `evaluate::controls::row_sums` meets its contract.
-- Assumes nothing.
use Prim.Native.Nat.{◌+◌}
use mathlib.Core.Bool.{true}
use mathlib.Core.Path.{◌≡◌}
use native.Mathlib.Omega.{arith}
use lib.Ieee.{of_bits}
use Rattle.basis.specs.Basis.{cell}
use Rattle.evaluate.specs.Controls.{row_sums}
use Rattle.evaluate.proofs.Summed.{row-none, row_more}
use Rattle.evaluate.proofs.controls.row_sums.Goals as goal
use Rattle.evaluate.proofs.controls.row_sums.Goals.{After-plus_of-s}

pub loop-j-init : goal.loop-j-init
unfolding of_bits
loop-j-init c = let a = c.args in
    row-none true a.points.now a.rational a.weights.now a.scale a.first (cell a.ders.now a.k)

-- the sums with the term of this turn
more : (c : After-plus_of-s)
    → c.plus_of-s.result ≡ row_sums true c.args.points.now c.args.rational c.args.weights.now c.args.scale c.args.first (cell c.args.ders.now c.args.k) (c.loop-j.j + 1)
more c = let a = c.args in
    let l = c.loop-j in
    row_more
    true a.points.now a.rational a.weights.now a.scale a.first l.j c.point_at-o.ensures c.point_at-q.ensures c.weight_at-w.ensures
    (cell a.ders.now a.k) l.s _ _ l.invariant c.term_of.ensures c.plus_of-s.ensures

pub loop-j-preserved : goal.loop-j-preserved
loop-j-preserved c = more (goal.at.loop-j-preserved c).After-plus_of-s

pub returns-2 : goal.returns-2
returns-2 c = let e : c.loop-j.j ≡ c.args.p = omega arith in cc (more (goal.at.returns-2 c).After-plus_of-s)
