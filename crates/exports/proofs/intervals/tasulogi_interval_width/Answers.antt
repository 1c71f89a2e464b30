use mathlib.Core.Path.{sym, ◌∙◌, ap}
use mathlib.Core.List.{[], ◌∷◌}
use lib.Ieee.{Float}
use Rattle.interval.specs.declared.Interval.{Interval}
use Rattle.exports.proofs.Branches.{on-new, no-new}
use Rattle.interval.specs.Ops.{width_of}
use Rattle.exports.specs.Answer.{values}
use Rattle.exports.proofs.Put.{leaves_by}
use Rattle.exports.proofs.intervals.tasulogi_interval_width.Goals as goal

pub returns-in-Some : goal.returns-in-Some
returns-in-Some c = on-new
    (λ (a : Interval). values (width_of a ∷ [])) (sym c.new.ensures ∙ c.in-Some.is)
    (leaves_by (ap (λ (x : Float). values (x ∷ [])) c.width.ensures) c.put_one.ensures)

pub returns-in-None : goal.returns-in-None
returns-in-None c = no-new
    (λ (a : Interval). values (width_of a ∷ [])) (sym c.new.ensures ∙ c.in-None.is)
    c.refuse.ensures
