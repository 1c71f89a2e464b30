-- `basis::basis::column` meets its contract.
-- Assumes nothing.
use Prim.Native.Nat.{ℕ}
use mathlib.Core.Path.{◌≡◌, refl, subst}
use native.Mathlib.Omega.{arith}
use Rattle.doubles.specs.Run.{at}
use Rattle.basis.proofs.Columns.{InColumn, column-start, column-step, column-end}
use Rattle.basis.proofs.basis.column.Goals as goal

pub loop-r-init : goal.loop-r-init
loop-r-init c = let a = c.args in
    column-start a.j (λ k. at a.left.now k) (λ k. at a.right.now k) a.ndu.now

pub loop-r-preserved : goal.loop-r-preserved
loop-r-preserved c = let l = c.loop-r in
    let a = c.args in
    column-step a.j (λ k. at a.left.now k) (λ k. at a.right.now k) a.ndu.now c.requires.j_nonzero c.requires.j_bound c.requires.j_in_bounds
    l.ndu l.saved l.r l.invariant c.loop-r-test.true _ _ refl refl

pub returns : goal.returns
returns c = let a = c.args in
    let i = c.loop-r.invariant in
    let e : c.loop-r.r ≡ a.j = omega arith in
    column-end a.j (λ k. at a.left.now k) (λ k. at a.right.now k) a.ndu.now c.requires.j_bound c.requires.j_in_bounds c.loop-r.ndu c.loop-r.saved
    (subst (λ (m : ℕ). InColumn a.j (λ k. at a.left.now k) (λ k. at a.right.now k) a.ndu.now c.loop-r.ndu c.loop-r.saved m) e i)
