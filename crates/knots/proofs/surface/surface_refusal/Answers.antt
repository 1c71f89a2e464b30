use Rattle.std.proofs.Common.{◌≡◌, ℕ, ◌/◌, sym, ap, ◌∙◌}
use Rattle.std.specs.Prelude.{Err}
use borrow.Author.Tests.{eq-eqb, ne_eqb, le-leb, lt-leb, lt-ltb, le-ltb, eqb-true}
use Rattle.knots.specs.Refusal.{refuse, placed, checked, PointNotFinite, WeightBad, KnotsUnordered, KnotRepeated}
use Rattle.std.proofs.lemmas.Result.{err_from_is_err_and}
use Rattle.knots.specs.Surface.{surface_refusal}
use Rattle.knots.proofs.Refusals.{skip, refused-first}
use Rattle.knots.proofs.surface.surface_refusal.Goals as goal

pub returns-in_err-net_refusal : goal.returns-in_err-net_refusal
unfolding surface_refusal
returns-in_err-net_refusal c = let p = err_from_is_err_and c.from_residual.result c.from_residual.ensures.1 in rw (p.1, p.2) (refused-first _ _ c.in_err-net_refusal.ensures)

pub returns-in_err-along : goal.returns-in_err-along
unfolding surface_refusal
returns-in_err-along c = let p = err_from_is_err_and c.from_residual-in_err-along.result c.from_residual-in_err-along.ensures.1 in rw (p.1, p.2) (simp (skip _ c.in_ok-net_refusal.ensures) (refused-first _ _ (c.in_err-along.ensures _ c.knot_refusal-u.ensures)))

pub returns-in_err-along-2 : goal.returns-in_err-along-2
unfolding surface_refusal
returns-in_err-along-2 c = let p = err_from_is_err_and c.from_residual-in_err-along-2.result c.from_residual-in_err-along-2.ensures.1 in rw (p.1, p.2) (simp (skip _ c.in_ok-net_refusal.ensures, skip _ (c.in_ok-along.ensures _ c.knot_refusal-u.ensures)) (refused-first _ _ (c.in_err-along-2.ensures _ c.knot_refusal-v.ensures)))

pub returns : goal.returns
unfolding surface_refusal
returns c = simp (skip _ c.in_ok-net_refusal.ensures, skip _ (c.in_ok-along.ensures _ c.knot_refusal-u.ensures), skip _ (c.in_ok-along-2.ensures _ c.knot_refusal-v.ensures)) c.control_refusal.ensures
