-- Two ends, the low one first.
-- Assumes nothing.
use mathlib.Core.Path.{sym, ◌∙◌}
use mathlib.Core.Bool.{true≢false}
use Rattle.replaying.proofs.answers.are_ends.Goals as goal

pub returns-then-same : goal.returns-then-same
returns-then-same c = record {
  holds =
      λ e. record { low = rw c.lo.ensures at (c.same.ensures.holds c.if-same.true); high = rw c.hi.ensures at (c.same-then-same.ensures.holds e) };
  says = λ e. c.same-then-same.ensures.says (rw c.hi.ensures e.high);
}

pub returns : goal.returns
returns c = record {
  holds = λ e. absurd (true≢false (sym e));
  says = λ e. absurd (true≢false (sym (c.same.ensures.says (rw c.lo.ensures e.low)) ∙ c.if-same.false));
}
