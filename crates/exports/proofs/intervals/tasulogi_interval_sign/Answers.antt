use mathlib.Core.Path.{sym, ◌∙◌, ap}
use Rattle.exports.proofs.Branches.{sign-one}
use Rattle.exports.specs.Intervals.{sign_number}
use Rattle.exports.proofs.intervals.tasulogi_interval_sign.Goals as goal

pub returns-in-Positive : goal.returns-in-Positive
returns-in-Positive c = sign-one (sym c.new.ensures ∙ c.in-Some.is) (sym c.sign.ensures ∙ c.in-Positive.is)

pub returns-in-Negative : goal.returns-in-Negative
returns-in-Negative c = sign-one (sym c.new.ensures ∙ c.in-Some.is) (sym c.sign.ensures ∙ c.in-Negative.is)

pub returns-in-Zero : goal.returns-in-Zero
returns-in-Zero c = sign-one (sym c.new.ensures ∙ c.in-Some.is) (sym c.sign.ensures ∙ c.in-Zero.is)

pub returns-in-Unknown : goal.returns-in-Unknown
returns-in-Unknown c = sign-one (sym c.new.ensures ∙ c.in-Some.is) (sym c.sign.ensures ∙ c.in-Unknown.is)

pub returns-in-None : goal.returns-in-None
returns-in-None c = sym (ap sign_number (sym c.new.ensures ∙ c.in-None.is))
