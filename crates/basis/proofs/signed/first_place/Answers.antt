-- `basis::signed::first_place` meets its contract.
-- Assumes nothing.
use Prim.Native.Nat.{◌+◌, ◌-◌, ◌≤◌, ◌<◌}
use mathlib.Core.Path.{sym, ◌∙◌, subst}
use native.Mathlib.Omega.{arith}
use lib.IntN.{ℤ}
use mir.Syntax.{w64}
use mir.Val.{SFits}
use Rattle.basis.specs.Ders.{first_of}
use Rattle.basis.proofs.Signeds.{start_fits, sfits_pos, cast-back, cast_is, low-place, high-place, negated}
use Rattle.basis.proofs.signed.first_place.Goals as goal

pub overflow_sub-rk : goal.overflow_sub-rk
overflow_sub-rk c = start_fits c.args.r c.args.k (omega arith) (omega arith)

pub returns-then-rk-geminus1 : goal.returns-then-rk-geminus1
unfolding first_of
returns-then-rk-geminus1 c = let r = c.args.r in
    let k = c.args.k in
    let h : k ≤ r + 1 = low-place r k (omega arith) (omega arith) c.if-rk-geminus1.true in
    omega arith

pub overflow_sub-result : goal.overflow_sub-result
overflow_sub-result c = let r = c.args.r in
    let k = c.args.k in
    let h : r + 1 < k = high-place r k (omega arith) (omega arith) c.if-rk-geminus1.false in
    let e = negated r k (omega arith) (omega arith) (omega arith) in
    subst (λ (z : ℤ). SFits w64 z) (sym e) (sfits_pos (k - r) (omega arith))

pub overflow_cast-result : goal.overflow_cast-result
overflow_cast-result c = let r = c.args.r in
    let k = c.args.k in
    let h : r + 1 < k = high-place r k (omega arith) (omega arith) c.if-rk-geminus1.false in
    let e = negated r k (omega arith) (omega arith) (omega arith) in
    cast-back _ (k - r) e (omega arith)

pub returns : goal.returns
unfolding first_of
returns c = let r = c.args.r in
    let k = c.args.k in
    let h : r + 1 < k = high-place r k (omega arith) (omega arith) c.if-rk-geminus1.false in
    let e = negated r k (omega arith) (omega arith) (omega arith) in
    cast_is _ (k - r) e (omega arith) ∙ omega arith
