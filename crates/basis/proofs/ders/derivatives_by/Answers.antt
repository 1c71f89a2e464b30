-- `basis::ders::derivatives_by` meets its contract.
-- Assumes nothing.
use mathlib.Core.Path.{ap}
use mathlib.Core.Logic.{inl, inr}
use native.Mathlib.Omega.{arith}
use lib.Ieee.{Float, binary64, mul}
use Rattle.basis.specs.Basis.{left_of, right_of}
use Rattle.basis.proofs.Factors.{done_none, done-one, done-two}
use Rattle.basis.proofs.ders.derivatives_by.Goals as goal

pub returns-then-n-eq0 : goal.returns-then-n-eq0
returns-then-n-eq0 c = let a = c.args in
    let ra = c.raw_derivatives in
    let l = left_of a.ks.now a.s a.u in
    let r = right_of a.ks.now a.s a.u in
    done_none a.p a.n c.requires.p_bound l r a.ders.now ra.new.ders ra.ensures c.if-n-eq0.true

pub returns-then-n-eq1 : goal.returns-then-n-eq1
returns-then-n-eq1 c = let a = c.args in
    let ra = c.raw_derivatives in
    let l = left_of a.ks.now a.s a.u in
    let r = right_of a.ks.now a.s a.u in
    done-one
    a.p a.n c.requires.p_bound l r a.ders.now ra.new.ders ra.ensures c.requires.p_nonzero c.degree_as_double-f.result
    c.degree_as_double-f.ensures c.scale_row.new.ders c.scale_row.ensures (omega arith)
    (inl c.if-n-eq1.true)

pub returns-then-p-eq1 : goal.returns-then-p-eq1
returns-then-p-eq1 c = let a = c.args in
    let ra = c.raw_derivatives in
    let l = left_of a.ks.now a.s a.u in
    let r = right_of a.ks.now a.s a.u in
    done-one
    a.p a.n c.requires.p_bound l r a.ders.now ra.new.ders ra.ensures c.requires.p_nonzero c.degree_as_double-f.result
    c.degree_as_double-f.ensures c.scale_row.new.ders
    c.scale_row.ensures (omega arith) (inr c.if-p-eq1.true)

pub returns : goal.returns
returns c = let a = c.args in
    let ra = c.raw_derivatives in
    let l = left_of a.ks.now a.s a.u in
    let r = right_of a.ks.now a.s a.u in
    done-two
    a.p a.n c.requires.p_bound l r a.ders.now ra.new.ders ra.ensures c.requires.p_nonzero
    c.degree_as_double-f.result
    c.degree_as_double-f.ensures
    c.scale_row.new.ders
    c.scale_row.ensures (omega arith) (omega arith) (omega arith) _
    (ap
    (λ (x : Float). mul binary64 c.degree_as_double-f.result x)
    c.degree_as_double.ensures)
    c.scale_row-2.new.ders c.scale_row-2.ensures
