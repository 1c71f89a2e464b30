use Rattle.std.proofs.lemmas.Result.{err_from_is_err_and}
use Rattle.std.specs.Prelude.{Ok, Err}
use mathlib.Core.Path.{sym, ap, ap₂, ◌∙◌, subst}
use Prim.Native.Nat.{ℕ}
use lib.ListN.{length}
use Rattle.knots.proofs.Surfaces.{valid-surface}
use Rattle.knots.proofs.Refusals.{let_by, stopped_by, stop, skip}
use Rattle.ranges.specs.Range.{span_over}
use Rattle.ranges.proofs.SpanIn.{span-is}
use Rattle.bounds.specs.Answer.{bounded_of}
use Rattle.bounds.specs.Surface.{ranges_refusal, bounded_by, SpansFit}
use Rattle.bounds.proofs.SpansIn.{ranges-valid, spans_fit}
use Rattle.bounds.proofs.surface.bound_valid.Goals as goal

pub returns-in_err-ranges_refusal : goal.returns-in_err-ranges_refusal
unfolding bounded_by
returns-in_err-ranges_refusal c = let a = c.args in
    let p = err_from_is_err_and c.from_residual.result c.from_residual.ensures.1 in
    let va = valid-surface a.u.degree a.v.degree a.uk.now a.vk.now a.u.count a.v.count a.points.now a.rational a.weights.now c.requires in
    let e = c.span_over-us.ensures ∙ span-is a.u.degree a.u.count a.uk.now a.u.lo a.u.hi va.u in
    let f = c.span_over-vs.ensures ∙ span-is a.v.degree a.v.count a.vk.now a.v.lo a.v.hi va.v in
    let h = c.in_err-ranges_refusal.ensures in
    rw (p.1, p.2, ← e, ← f, stop _ h) (ap Err (stopped_by _ h).0)

pub on_spans-requires : goal.on_spans-requires
on_spans-requires c = let a = c.args in
    let va = valid-surface a.u.degree a.v.degree a.uk.now a.vk.now a.u.count a.v.count a.points.now a.rational a.weights.now c.requires in
    let e = c.span_over-us.ensures ∙ span-is a.u.degree a.u.count a.uk.now a.u.lo a.u.hi va.u in
    let f = c.span_over-vs.ensures ∙ span-is a.v.degree a.v.count a.vk.now a.v.lo a.v.hi va.v in
    let ok =
    ranges-valid
    a.u.degree a.v.degree a.uk.now a.vk.now a.u.count a.v.count a.u.lo a.u.hi a.v.lo a.v.hi va.u va.v
    (ap₂ (λ (x y : ℕ). (ranges_refusal a.u.degree a.v.degree a.u.count a.v.count x y a.u.lo a.u.hi a.v.lo a.v.hi).number) (sym e) (sym f) ∙ let_by _ c.in_ok-ranges_refusal.ensures) in
    subst
    (λ (x : ℕ). SpansFit a.u.degree a.v.degree x c.span_over-vs.result (length a.uk.now) (length a.vk.now) a.v.count) (sym e)
    (subst
    (λ (y : ℕ). SpansFit a.u.degree a.v.degree (span_over a.u.degree a.u.count a.uk.now a.u.lo a.u.hi) y (length a.uk.now) (length a.vk.now) a.v.count)
    (sym f)
    (spans_fit
    a.u.degree a.v.degree a.uk.now a.vk.now a.u.count a.v.count a.points.now a.weights.now a.rational a.u.lo a.u.hi a.v.lo a.v.hi _ _ va
    ok.0 ok.1))

pub returns : goal.returns
unfolding bounded_by
returns c = let a = c.args in
    let va = valid-surface a.u.degree a.v.degree a.uk.now a.vk.now a.u.count a.v.count a.points.now a.rational a.weights.now c.requires in
    let e = c.span_over-us.ensures ∙ span-is a.u.degree a.u.count a.uk.now a.u.lo a.u.hi va.u in
    let f = c.span_over-vs.ensures ∙ span-is a.v.degree a.v.count a.vk.now a.v.lo a.v.hi va.v in
    rw (← e, ← f, skip _ c.in_ok-ranges_refusal.ensures) (c.answer_of.ensures ∙ ap bounded_of c.on_spans.ensures)
