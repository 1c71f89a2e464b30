-- `made::iso::iso_fill` meets its contract.
-- Assumes nothing.
use mathlib.Core.Path.{sym, ◌∙◌, ap}
use Prim.Native.Nat.{◌+◌}
use native.Mathlib.Omega.{arith}
use Rattle.basis.specs.Basis.{cell}
use Rattle.made.specs.Iso.{iso_sums}
use Rattle.runs.specs.Point.{point_put}
use Rattle.made.proofs.Isos.{iso-start, iso-stop, iso-more, iso-end}
use Rattle.made.proofs.iso.iso_fill.Goals as goal

pub loop-k-init : goal.loop-k-init
loop-k-init c = let a = c.args in
    iso-start
    (iso_sums a.points.now a.rational a.weights.now a.strip.constant_u a.strip.columns a.strip.first (cell a.ders.now 0) (a.strip.p + 1)) a.count
    a.out_points.now a.out_weights.now

pub returns-then-not-is_weight : goal.returns-then-not-is_weight
returns-then-not-is_weight c = let a = c.args in
    let l = c.loop-k in
    let q = c.requires in
    iso-stop
    (iso_sums a.points.now a.rational a.weights.now a.strip.constant_u a.strip.columns a.strip.first (cell a.ders.now 0) (a.strip.p + 1)) a.count
    a.out_points.now a.out_weights.now l.out_points l.out_weights l.k l.invariant c.loop-k-test.true q.count_in_bounds q.count_in_bounds_2 _
    c.iso_sums-h.ensures (sym c.is_weight.ensures ∙ c.if-not-is_weight.true)

pub loop-k-preserved : goal.loop-k-preserved
loop-k-preserved c = let a = c.args in
    let l = c.loop-k in
    let q = c.requires in
    iso-more
    (iso_sums a.points.now a.rational a.weights.now a.strip.constant_u a.strip.columns a.strip.first (cell a.ders.now 0) (a.strip.p + 1))
    a.count
    a.out_points.now
    a.out_weights.now
    l.out_points
    l.out_weights
    l.k
    l.invariant
    c.loop-k-test.true
    q.count_in_bounds
    q.count_in_bounds_2
    _
    c.iso_sums-h.ensures
    (sym c.is_weight.ensures ∙ c.if-not-is_weight.false)
    _
    (c.put_point.ensures ∙ ap (point_put l.out_points l.k) c.lowered.ensures)

pub returns : goal.returns
returns c = let a = c.args in
    let l = c.loop-k in
    iso-end
    (iso_sums a.points.now a.rational a.weights.now a.strip.constant_u a.strip.columns a.strip.first (cell a.ders.now 0) (a.strip.p + 1)) a.count
    a.out_points.now a.out_weights.now l.out_points l.out_weights l.k l.invariant (omega arith)
