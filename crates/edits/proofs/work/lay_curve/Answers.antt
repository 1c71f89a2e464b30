-- `edits::work::lay_curve` meets its contract.
-- Assumes nothing.
use Rattle.std.proofs.Common.{sym, ◌∙◌, ap}
use lib.ListN.{length}
use Rattle.knots.specs.declared.refusal.Refusal.{Refusal}
use Rattle.knots.proofs.Refusals.{let_by, stopped_by}
use Rattle.edits.proofs.RowReads.{given-room}
use Rattle.edits.proofs.WorkCalls.{ends-refused, ends-formed, lay-refuses, lay-gives, lay-open}
use Rattle.edits.proofs.RunWithCurve.{laid-is}
use Rattle.edits.proofs.work.lay_curve.Goals as goal

pub returns-in-Err : goal.returns-in-Err
returns-in-Err c = let a = c.args in
    let s = stopped_by _ c.in-Err.ensures in
    let o = lay-refuses a.curve.knots.now a.curve.points.now a.curve.rational a.curve.weights.now a.a (length a.work.now) c.in-Err.ensures in
    let both = ends-refused a.a a.curve.rational a.work.now _ _ _ o (λ z. s.1 (ap (λ (r : Refusal). r.number) (sym s.0) ∙ z)) c.clear.ensures in
    record { value = both.0; work_after = both.1 }

pub lay_into-requires : goal.lay_into-requires
lay_into-requires c = let a = c.args in
    let o = lay-open a.curve.knots.now a.curve.points.now a.curve.rational a.curve.weights.now a.a (length a.work.now) (let_by _ c.in_default.ensures) in
    record { points_in_bounds = given-room a.curve.rational _ _ o.0; points_len_bound = o.1 }

pub returns : goal.returns
returns c = let a = c.args in
    let z = let_by _ c.in_default.ensures in
    let o = lay-open a.curve.knots.now a.curve.points.now a.curve.rational a.curve.weights.now a.a (length a.work.now) z in
    let both =
    ends-formed
    a.a a.curve.rational a.work.now _ _ a.curve.knots.now a.curve.points.now a.curve.weights.now
    (lay-gives a.curve.knots.now a.curve.points.now a.curve.rational a.curve.weights.now a.a (length a.work.now) z)
    (laid-is
    a.a a.work.now a.curve.knots.now a.curve.points.now a.curve.rational a.curve.weights.now _ c.work-2-1.given o.1.0 o.1.1
    c.lay_into.ensures) in
    record { value = both.0; work_after = both.1 }
