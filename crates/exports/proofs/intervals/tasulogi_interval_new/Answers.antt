use mathlib.Core.Path.{sym, ◌∙◌}
use Rattle.exports.proofs.Branches.{new-of}
use Rattle.exports.proofs.intervals.tasulogi_interval_new.Goals as goal

pub returns-in-Some : goal.returns-in-Some
returns-in-Some c = new-of (sym c.new.ensures ∙ c.in-Some.is) c.put.ensures

pub returns-in-None : goal.returns-in-None
returns-in-None c = new-of (sym c.new.ensures ∙ c.in-None.is) c.refuse.ensures
