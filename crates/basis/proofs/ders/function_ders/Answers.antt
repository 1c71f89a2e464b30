-- `basis::ders::function_ders` meets its contract.
-- Assumes nothing.
use Prim.Native.Nat.{◌+◌}
use mathlib.Core.Path.{refl}
use mathlib.Core.Logic.{inl, inr}
use native.Mathlib.Omega.{arith}
use lib.ListN.{set, length-set, replicate}
use Rattle.basis.specs.Floats.{floats}
use Rattle.basis.specs.Basis.{cell}
use Rattle.basis.proofs.Derivs.{first-is, second_is, ders-none, ders-one, ders-two}
use Rattle.basis.proofs.ders.function_ders.Goals as goal

pub returns-then-n-eq0 : goal.returns-then-n-eq0
returns-then-n-eq0 c = let a = c.args in
    ders-none (cell a.ndu.now) a.p a.r a.n (omega arith) a.ders.now c.requires.ders_len c.if-n-eq0.true

pub returns-then-n-eq1 : goal.returns-then-n-eq1
returns-then-n-eq1 c = let a = c.args in
    let ro = c.row-x in
    ders-one
    (cell a.ndu.now) a.p a.r a.n (omega arith) a.ders.now c.requires.ders_len (omega arith) _
    (first-is (cell a.ndu.now) a.p a.r (omega arith) (omega arith) (set (replicate 3 floats.nought) 0 floats.one) ro.new.to ro.result refl ro.ensures)
    (omega arith) (inl c.if-n-eq1.true)

pub returns-then-p-eq1 : goal.returns-then-p-eq1
returns-then-p-eq1 c = let a = c.args in
    let ro = c.row-x in
    ders-one
    (cell a.ndu.now) a.p a.r a.n (omega arith) a.ders.now c.requires.ders_len (omega arith) _
    (first-is (cell a.ndu.now) a.p a.r (omega arith) (omega arith) (set (replicate 3 floats.nought) 0 floats.one) ro.new.to ro.result refl ro.ensures)
    (omega arith) (inr c.if-p-eq1.true)

pub bounds-ders-j : goal.bounds-ders-j
bounds-ders-j c = let a = c.args in
    let e = length-set a.ders.now (65 + a.r) c.row-x.result in
    omega arith

pub returns : goal.returns
returns c = let a = c.args in
    let ro = c.row-x in
    ders-two
    (cell a.ndu.now) a.p a.r a.n (omega arith) a.ders.now c.requires.ders_len (omega arith) _ _
    (first-is (cell a.ndu.now) a.p a.r (omega arith) (omega arith) (set (replicate 3 floats.nought) 0 floats.one) ro.new.to ro.result refl ro.ensures)
    (second_is
    (cell a.ndu.now) a.p a.r (omega arith) (omega arith) (set (replicate 3 floats.nought) 0 floats.one) ro.new.to ro.result refl ro.ensures (omega arith) _ _
    c.row-y.ensures)
    (omega arith)
