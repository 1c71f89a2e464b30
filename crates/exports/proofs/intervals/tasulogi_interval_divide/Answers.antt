use mathlib.Core.Path.{sym, ap, ◌∙◌}
use Rattle.std.specs.Prelude.{Ok}
use Rattle.interval.specs.declared.Interval.{Interval}
use Rattle.exports.proofs.Divided.{divided}
use Rattle.exports.proofs.Branches.{on_both-leaves, no_both, quotient-of, refused-by}
use Rattle.interval.specs.Ops.{divide_of, times_by}
use Rattle.exports.specs.Intervals.{quotient_answer}
use Rattle.exports.specs.Tables.{packed_of}
use Rattle.exports.proofs.intervals.tasulogi_interval_divide.Goals as goal

pub returns-in-Ok : goal.returns-in-Ok
unfolding packed_of divide_of
returns-in-Ok c = let all = let a = c.args in
    divided a.al a.ah a.bl a.bh
    (on_both-leaves
    (λ (a b : Interval). quotient_answer (divide_of a b))
    (sym c.pair.ensures ∙ c.in-Some.is)
    (quotient-of (ap (times_by _) (sym c.reciprocal.ensures ∙ c.in-Ok.is) ∙ ap Ok (sym c.mul.ensures)) c.put.ensures)) in
    record { leaves = all.0; not_idle = all.1 }

pub returns-in-Err : goal.returns-in-Err
unfolding packed_of divide_of
returns-in-Err c = let all = let a = c.args in
    divided a.al a.ah a.bl a.bh
    (on_both-leaves
    (λ (a b : Interval). quotient_answer (divide_of a b))
    (sym c.pair.ensures ∙ c.in-Some.is)
    (quotient-of (ap (times_by _) (sym c.in-Err.ensures)) (refused-by c.in-Err.e (rw c.from.ensures at c.refuse.ensures)))) in
    record { leaves = all.0; not_idle = all.1 }

pub returns-in-None : goal.returns-in-None
returns-in-None c = let all = let a = c.args in
    divided a.al a.ah a.bl a.bh
    (no_both (λ (a b : Interval). quotient_answer (divide_of a b)) (sym c.pair.ensures ∙ c.in-None.is) c.refuse-in-None.ensures) in
    record { leaves = all.0; not_idle = all.1 }
