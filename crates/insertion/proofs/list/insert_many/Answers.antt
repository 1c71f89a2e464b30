-- `insertion::list::insert_many` meets its contract.
-- Assumes nothing.
use Rattle.insertion.proofs.Folds.{turns-stop, turns_more, turns-end, more-next, more-last}
use Rattle.std.proofs.lemmas.Result.{err_from_is_err_and}
use mathlib.Core.Path.{◌∙◌}
use Prim.Native.Nat.{◌-◌, ◌+◌}
use lib.ListN.{replicate}
use native.Mathlib.Omega.{arith}
use Rattle.edits.proofs.RowReads.{scale-fits}
use Rattle.insertion.proofs.list.insert_many.Goals as goal

pub insert_one-requires-clause-scale_value : goal.insert_one-requires-clause-scale_value
insert_one-requires-clause-scale_value c = let l = c.loop-j in
    let L = l.invariant.long in
    let q = c.requires.m_bound in
    let t = c.loop-j-test.true in
    c.scale_in-scale.ensures ∙ scale-fits (c.args.n + l.j) c.args.rational l.work (omega arith)

pub returns-in_err-insert_one : goal.returns-in_err-insert_one
returns-in_err-insert_one c = let p = err_from_is_err_and c.from_residual.result c.from_residual.ensures.1 in
    let a = c.args in
    let l = c.loop-j in
    rw
    (p.1, p.2)
    (turns-stop
    a.a a.p a.rational a.n a.m (replicate a.m a.t) (λ k. replicate (a.m - k) a.t) a.work.now _ l.j l.invariant
    c.loop-j-test.true a.t
    (more-next a.t a.m l.j c.loop-j-test.true) _ _ c.in_err-insert_one.ensures)

pub loop-j-preserved : goal.loop-j-preserved
loop-j-preserved c = let a = c.args in
    let l = c.loop-j in
    turns_more
    a.a a.p a.rational a.n a.m (replicate a.m a.t) (λ k. replicate (a.m - k) a.t) a.work.now _ l.j l.invariant
    c.loop-j-test.true a.t
    (more-next a.t a.m l.j c.loop-j-test.true) _ c.in_ok-insert_one.ensures c.insert_one.auto.work

pub returns : goal.returns
returns c = let a = c.args in
    turns-end
    a.a a.p a.rational a.n a.m (replicate a.m a.t) (λ k. replicate (a.m - k) a.t) a.work.now _ c.loop-j.j c.loop-j.invariant
    c.loop-j-test.false (more-last a.t a.m)
