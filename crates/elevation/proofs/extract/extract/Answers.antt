-- `elevation::extract::extract` meets its contract.
-- Assumes nothing.
use Rattle.std.proofs.Common.{refl}
use Rattle.std.proofs.lemmas.Result.{err_from_is_err_and}
use Rattle.elevation.proofs.Extracting.{extract-stop, extract-more, extract-end}
use Rattle.elevation.proofs.extract.extract.Goals as goal

pub returns-in_err-insert_times : goal.returns-in_err-insert_times
returns-in_err-insert_times c = let p = err_from_is_err_and c.from_residual.result c.from_residual.ensures.1 in
    let q = c.requires in
    let r = c.in_err-insert_times.ensures in
    rw
    (p.1, p.2)
    (extract-stop
    _ _ _ _ _ _ _ q.knots_bound q.p_in_bounds _ _ _ c.loop-t.invariant _ _ c.in-Some.ensures.steps _ c.missing-m.ensures _ _ r.value r.work_after (λ z. cc))

pub loop-t-preserved : goal.loop-t-preserved
loop-t-preserved c = let q = c.requires in
    let r = c.in_ok-insert_times.ensures in
    extract-more
    _ _ _ _ _ _ _ q.knots_bound q.p_in_bounds _ _ _ c.loop-t.invariant _ _ c.in-Some.ensures.steps _ c.missing-m.ensures _ _ r.value r.work_after refl

pub returns : goal.returns
returns c = let q = c.requires in
    extract-end _ _ _ _ _ _ _ q.knots_bound q.p_in_bounds _ _ _ c.loop-t.invariant c.in-None.ensures.steps.0
