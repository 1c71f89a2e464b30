use Rattle.std.proofs.Common.{sym, ap, ◌∙◌}
use Rattle.knots.proofs.Refusals.{let_by, stopped_by}
use Rattle.exports.specs.Tables.{packed_of}
use Rattle.exports.proofs.tables.packed_check.Goals as goal

pub returns-in-Ok : goal.returns-in-Ok
unfolding packed_of
returns-in-Ok c = λ a f h. sym (ap packed_of (f (let_by a (sym c.in-Ok.is ∙ h))))

pub returns-in-Err : goal.returns-in-Err
returns-in-Err c = λ a f h. c.packed.ensures ∙ ap packed_of (stopped_by a (sym c.in-Err.is ∙ h)).0
