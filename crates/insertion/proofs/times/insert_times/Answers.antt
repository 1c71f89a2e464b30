-- `insertion::times::insert_times` meets its contract.
-- Assumes nothing.
use Rattle.std.proofs.Common.{sym, ◌∙◌, ap}
use Rattle.knots.specs.Clear.{zeros}
use Rattle.knots.specs.declared.refusal.Refusal.{Refusal}
use Rattle.knots.proofs.Refusals.{let_by, stopped_by}
use Rattle.edits.proofs.WorkCalls.{ends-refused}
use Rattle.insertion.proofs.TimesCalls.{times-open, times-early, times-late, times-some, times-formed}
use Rattle.insertion.proofs.times.insert_times.Goals as goal

pub returns-in-Err : goal.returns-in-Err
returns-in-Err c = let a = c.args in
    let s = stopped_by _ c.in-Err.ensures in
    let all =
    ends-refused
    a.a a.rational a.work.now _ _ _ (times-early a.p a.n a.m a.a a.work.now a.rational a.t _ c.in-Err.ensures)
    (λ z. s.1 (ap (λ (r : Refusal). r.number) (sym s.0) ∙ z)) c.clear.ensures in
    record { value = all.0; work_after = all.1 }

pub insert_many-requires : goal.insert_many-requires
insert_many-requires c = let a = c.args in
    let all = times-open a.p a.n a.m a.a a.work.now (let_by _ c.in_default.ensures) in
    record { valid_knots = all.0; m_bound = all.1 }

pub returns-in-Err-insert_many : goal.returns-in-Err-insert_many
returns-in-Err-insert_many c = let a = c.args in
    let z = let_by _ c.in_default.ensures in
    let all =
    ends-refused
    a.a a.rational a.work.now _ _ _ (times-late a.p a.n a.m a.a a.work.now a.rational a.t z _ _ c.in-Err-insert_many.ensures)
    (times-some a.p a.n a.m a.a a.work.now a.rational a.t z _ _ c.in-Err-insert_many.ensures)
    (c.clear-in-Err-insert_many.ensures ∙ ap zeros c.insert_many.auto.work) in
    record { value = all.0; work_after = all.1 }

pub returns : goal.returns
returns c = let a = c.args in
    let all =
    times-formed
    a.p a.n a.m a.a a.work.now a.rational a.t (let_by _ c.in_default.ensures) _ c.in_default-insert_many.ensures
    c.insert_many.auto.work in
    record { value = all.0; work_after = all.1 }
