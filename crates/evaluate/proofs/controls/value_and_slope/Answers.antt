-- `evaluate::controls::value_and_slope` meets its contract.
-- Assumes nothing.
use Prim.Native.Nat.{ℕ, ◌+◌}
use mathlib.Core.Bool.{false}
use mathlib.Core.Path.{◌≡◌, subst}
use native.Mathlib.Omega.{arith}
use lib.Ieee.{of_bits}
use Rattle.basis.specs.Basis.{cell}
use Rattle.evaluate.specs.Controls.{term_of, row_sums}
use Rattle.doubles.specs.Run.{at}
use Rattle.evaluate.specs.declared.sums.Sums.{Sums}
use Rattle.evaluate.proofs.Summed.{row-none, row_more}
use Rattle.evaluate.proofs.controls.value_and_slope.Goals as goal
use Rattle.evaluate.proofs.controls.value_and_slope.Goals.{After-plus_of-slope}

pub loop-j-init : goal.loop-j-init
unfolding of_bits
loop-j-init c = let a = c.args in
    let none = row-none false a.points.now a.rational a.weights.now a.scale a.first in
    record { value = none (cell a.ders.now 0); slope = none (cell a.ders.now 1) }

-- the sums of row r
abbrev row : After-plus_of-slope → ℕ → ℕ → Sums
row c r = row_sums false c.args.points.now c.args.rational c.args.weights.now c.args.scale c.args.first (cell c.args.ders.now r)

-- the sums with the terms of this turn
more : (c : After-plus_of-slope) → (c.plus_of-value.result ≡ row c 0 (c.loop-j.j + 1)) × (c.plus_of-slope.result ≡ row c 1 (c.loop-j.j + 1))
more c = let o = c.point_at-o in
    let a = c.args in
    let l = c.loop-j in
    let w = c.weight_at-w in
    let q = c.point_at-q in
    let t = c.term_of in
    let next = row_more false a.points.now a.rational a.weights.now a.scale a.first l.j o.ensures q.ensures w.ensures in
    let first : l.j ≡ 0 + l.j = omega arith in
    let term = subst (λ (i : ℕ). t.result ≡ term_of false o.result q.result w.result (at a.ders.now i)) first t.ensures in (
      next (cell a.ders.now 0) l.value _ _ l.invariant.value term c.plus_of-value.ensures,
      next (cell a.ders.now 1) l.slope _ _ l.invariant.slope c.term_of-in-loop-j.ensures c.plus_of-slope.ensures,
    )

pub loop-j-preserved : goal.loop-j-preserved
loop-j-preserved c = let m = more (goal.at.loop-j-preserved c).After-plus_of-slope in record { value = m.0; slope = m.1 }

pub returns-2 : goal.returns-2
returns-2 c = let e : c.loop-j.j ≡ c.args.p = omega arith in
    let m = more (goal.at.returns-2 c).After-plus_of-slope in
    record { value_value = cc m.0; slope_value = cc m.1 }
