-- `basis::signed::shifted` meets its contract.
-- Assumes nothing.
use Prim.Native.Nat.{◌+◌, ◌-◌}
use mathlib.Core.Path.{sym, subst}
use native.Mathlib.Omega.{arith}
use lib.IntN.{ℤ}
use mir.Syntax.{w64}
use mir.Val.{SFits}
use Rattle.basis.proofs.Signeds.{start_fits, place, sfits_pos, cast-back, cast_is}
use Rattle.basis.proofs.signed.shifted.Goals as goal

pub overflow_sub-rk : goal.overflow_sub-rk
overflow_sub-rk c = start_fits c.args.r c.args.k (omega arith) (omega arith)

pub overflow_add-i : goal.overflow_add-i
overflow_add-i c = let r = c.args.r in
    let k = c.args.k in
    let j = c.args.j in
    let e = place r k (omega arith) (omega arith) j (omega arith) (omega arith) in
    subst (λ (z : ℤ). SFits w64 z) (sym e) (sfits_pos (r + j - k) (omega arith))

pub overflow_cast-result : goal.overflow_cast-result
overflow_cast-result c = let r = c.args.r in
    let k = c.args.k in
    let j = c.args.j in
    let e = place r k (omega arith) (omega arith) j (omega arith) (omega arith) in
    cast-back _ (r + j - k) e (omega arith)

pub returns : goal.returns
returns c = let r = c.args.r in
    let k = c.args.k in
    let j = c.args.j in
    let e = place r k (omega arith) (omega arith) j (omega arith) (omega arith) in
    let i = cast_is _ (r + j - k) e (omega arith) in
    rw i (omega arith)
