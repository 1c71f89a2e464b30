-- `basis::row::row_start` meets its contract.
-- Assumes nothing.
use Prim.Native.Nat.{◌+◌, ◌-◌}
use mathlib.Core.Path.{◌≡◌, ◌∙◌}
use native.Mathlib.Omega.{arith}
use lib.ListN.{length-set}
use lib.Seq.{get_or-set_same}
use lib.Ieee.{nan}
use Rattle.doubles.specs.Run.{at}
use Rattle.basis.specs.Basis.{cell}
use Rattle.basis.proofs.Rows.{start-coef, start_none, start-some}
use Rattle.basis.proofs.row.row_start.Goals as goal

pub returns-then-r-k : goal.returns-then-r-k
returns-then-r-k c = let a = c.args in
    record { long = c.requires.to_len; coefs = λ h. absurd (omega arith); sum = start_none (cell a.ndu.now) a.p a.r a.k (at a.from.now) c.if-r-k.true }

pub returns : goal.returns
returns c = let a = c.args in
    let i = c.shifted-i.result in
    let q = c.shifted-i.ensures in
    let long = c.requires.to_len in
    let e : i ≡ a.r + 0 - a.k = omega arith in
    let coef = start-coef (cell a.ndu.now) a.p a.r a.k (at a.from.now) i e in
    record {
      long = length-set a.to.now 0 _ ∙ long;
      coefs = λ h. get_or-set_same a.to.now 0 _ nan (omega arith) ∙ coef;
      sum = start-some (cell a.ndu.now) a.p a.r a.k (at a.from.now) (omega arith) _ i e coef;
    }
