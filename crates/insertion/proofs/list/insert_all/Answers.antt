-- `insertion::list::insert_all` meets its contract.
-- Assumes nothing.
use Rattle.std.proofs.lemmas.Result.{err_from_is_err_and}
use mathlib.Core.Path.{refl, ◌∙◌}
use Prim.Native.Nat.{◌+◌}
use lib.ListN.{length, drop}
use Rattle.insertion.proofs.Folds.{turns-start, turns-stop, turns_more, turns-end, drop-next, drop-last}
use native.Mathlib.Omega.{arith}
use Rattle.edits.proofs.RowReads.{scale-fits}
use Rattle.insertion.proofs.list.insert_all.Goals as goal

pub loop-i-init : goal.loop-i-init
loop-i-init c = turns-start
    c.args.a c.args.p c.args.rational c.args.n (length c.args.inserted.now)
    c.args.inserted.now (λ k. drop k c.args.inserted.now) c.args.work.now refl c.requires.valid_knots

pub insert_one-requires-clause-scale_value : goal.insert_one-requires-clause-scale_value
insert_one-requires-clause-scale_value c = let l = c.loop-i in
    let L = l.invariant.long in
    let q = c.requires.inserted_bound in
    let t = c.loop-i-test.true in
    c.scale_in-scale.ensures ∙ scale-fits (c.args.n + l.i) c.args.rational l.work (omega arith)

pub returns-in_err-insert_one : goal.returns-in_err-insert_one
returns-in_err-insert_one c = let p = err_from_is_err_and c.from_residual.result c.from_residual.ensures.1 in
    let a = c.args in
    let l = c.loop-i in
    rw
    (p.1, p.2)
    (turns-stop
    a.a a.p a.rational a.n (length a.inserted.now) a.inserted.now (λ k. drop k a.inserted.now) a.work.now _ l.i l.invariant
    c.loop-i-test.true _
    (drop-next a.inserted.now l.i c.loop-i-test.true) _ _ c.in_err-insert_one.ensures)

pub loop-i-preserved : goal.loop-i-preserved
loop-i-preserved c = let a = c.args in
    let l = c.loop-i in
    turns_more
    a.a a.p a.rational a.n (length a.inserted.now) a.inserted.now (λ k. drop k a.inserted.now) a.work.now _ l.i l.invariant
    c.loop-i-test.true _
    (drop-next a.inserted.now l.i c.loop-i-test.true) _ c.in_ok-insert_one.ensures c.insert_one.auto.work

pub returns : goal.returns
returns c = let a = c.args in
    turns-end
    a.a a.p a.rational a.n (length a.inserted.now) a.inserted.now (λ k. drop k a.inserted.now) a.work.now _ c.loop-i.i c.loop-i.invariant
    c.loop-i-test.false (drop-last a.inserted.now)
