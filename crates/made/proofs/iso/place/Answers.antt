-- `made::iso::place` meets its contract.
-- Assumes nothing.
use Prim.Native.Nat.{◌+◌, ◌*◌, ◌<◌}
use native.Mathlib.Omega.{arith}
use Rattle.made.specs.Iso.{place_of}
use Rattle.made.proofs.iso.place.Goals as goal

pub overflow_mul-result : goal.overflow_mul-result
unfolding place_of
overflow_mul-result c = let a = c.args in
    let h : a.i * a.columns + a.k < 18446744073709551616 = simp c.if-constant_u.true at c.requires in
    omega arith

pub overflow_add-result : goal.overflow_add-result
unfolding place_of
overflow_add-result c = let a = c.args in
    let h : a.i * a.columns + a.k < 18446744073709551616 = simp c.if-constant_u.true at c.requires in
    omega arith

pub returns-then-constant_u : goal.returns-then-constant_u
unfolding place_of
returns-then-constant_u c = simp c.if-constant_u.true

pub overflow_mul-result-2 : goal.overflow_mul-result-2
unfolding place_of
overflow_mul-result-2 c = let a = c.args in
    let h : a.k * a.columns + a.i < 18446744073709551616 = simp c.if-constant_u.false at c.requires in
    omega arith

pub overflow_add-result-2 : goal.overflow_add-result-2
unfolding place_of
overflow_add-result-2 c = let a = c.args in
    let h : a.k * a.columns + a.i < 18446744073709551616 = simp c.if-constant_u.false at c.requires in
    omega arith

pub returns : goal.returns
unfolding place_of
returns c = simp c.if-constant_u.false
