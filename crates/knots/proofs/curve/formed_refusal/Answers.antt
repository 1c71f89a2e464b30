use Rattle.std.proofs.Common.{◌≡◌, ℕ, ◌/◌, sym, ap, ◌∙◌}
use Rattle.std.specs.Prelude.{Err}
use borrow.Author.Tests.{eq-eqb, ne_eqb, le-leb, lt-leb, lt-ltb, le-ltb, eqb-true}
use Rattle.knots.specs.Refusal.{refuse, placed, checked, PointNotFinite, WeightBad, KnotsUnordered, KnotRepeated}
use Rattle.std.proofs.lemmas.Result.{err_from_is_err_and}
use Rattle.knots.specs.Curve.{formed_refusal}
use Rattle.knots.proofs.Refusals.{skip, refused-first}
use Rattle.knots.proofs.curve.formed_refusal.Goals as goal

pub returns-in_err-knot_refusal : goal.returns-in_err-knot_refusal
unfolding formed_refusal
returns-in_err-knot_refusal c = let p = err_from_is_err_and c.from_residual.result c.from_residual.ensures.1 in rw (p.1, p.2) (refused-first _ _ c.in_err-knot_refusal.ensures)

pub returns : goal.returns
unfolding formed_refusal
returns c = simp (skip _ c.in_ok-knot_refusal.ensures) c.control_refusal.ensures
