use Rattle.std.proofs.Common.{◌≡◌, ℕ, ◌/◌, sym, ap, ◌∙◌}
use Rattle.std.specs.Prelude.{Err}
use borrow.Author.Tests.{eq-eqb, ne_eqb, le-leb, lt-leb, lt-ltb, le-ltb, eqb-true}
use Rattle.knots.specs.Refusal.{refuse, placed, checked, PointNotFinite, WeightBad, KnotsUnordered, KnotRepeated}
use Rattle.std.proofs.lemmas.Result.{err_from_is_err_and}
use Rattle.knots.specs.Span.{span_refusal}
use Rattle.knots.proofs.Refusals.{skip, refused-first}
use Rattle.knots.proofs.span.span_refusal.Goals as goal

pub returns-then-over_long : goal.returns-then-over_long
unfolding span_refusal checked
returns-then-over_long c = simp (sym c.over_long.ensures ∙ c.if-over_long.true) (ap Err c.refuse.ensures)

pub returns-in_err-knot_refusal : goal.returns-in_err-knot_refusal
unfolding span_refusal
returns-in_err-knot_refusal c = let p = err_from_is_err_and c.from_residual.result c.from_residual.ensures.1 in rw (p.1, p.2) (simp (sym c.over_long.ensures ∙ c.if-over_long.false) (refused-first _ _ c.in_err-knot_refusal.ensures))

pub returns : goal.returns
unfolding span_refusal
returns c = simp (sym c.over_long.ensures ∙ c.if-over_long.false, skip _ c.in_ok-knot_refusal.ensures) c.domain_refusal.ensures
