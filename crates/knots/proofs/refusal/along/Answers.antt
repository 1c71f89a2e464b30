use Rattle.std.proofs.Common.{sym, ap, ◌∙◌}
use Rattle.std.specs.Prelude.{Err}
use Rattle.knots.proofs.Refusals.{along-let, along-stop}
use Rattle.knots.proofs.refusal.along.Goals as goal

pub returns-in-Ok : goal.returns-in-Ok
returns-in-Ok c = λ a h. along-let c.args.direction a (sym c.in-Ok.is ∙ h)

pub returns-in-Err : goal.returns-in-Err
returns-in-Err c = λ a h. ap Err c.refuse_along.ensures ∙ along-stop c.args.direction a (sym c.in-Err.is ∙ h)
