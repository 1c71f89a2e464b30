use Rattle.exports.proofs.Branches.{inside_one}
use Rattle.std.specs.Prelude.{Option}
use Rattle.interval.specs.declared.Interval.{Interval}
use Rattle.interval.specs.Ops.{contains_of}
use mathlib.Core.Path.{sym, ◌∙◌, ap}
use Rattle.exports.specs.Intervals.{inside_number}
use Rattle.exports.proofs.intervals.tasulogi_interval_contains.Goals as goal

pub returns-then-contains : goal.returns-then-contains
unfolding contains_of
returns-then-contains c = inside_one
    c.args.x (sym c.new.ensures ∙ c.in-Some.is)
    (sym c.contains.ensures ∙ c.if-contains.true)

pub returns-else-contains : goal.returns-else-contains
unfolding contains_of
returns-else-contains c = inside_one
    c.args.x (sym c.new.ensures ∙ c.in-Some.is)
    (sym c.contains.ensures ∙ c.if-contains.false)

pub returns-in-None : goal.returns-in-None
returns-in-None c = sym (ap (λ (n : Option Interval). inside_number n c.args.x) (sym c.new.ensures ∙ c.in-None.is))
