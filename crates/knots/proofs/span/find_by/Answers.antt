use Rattle.std.proofs.Common.{◌≡◌, ℕ, ◌/◌, sym, ap, ◌∙◌}
use Rattle.std.specs.Prelude.{Err}
use borrow.Author.Tests.{eq-eqb, ne_eqb, le-leb, lt-leb, lt-ltb, le-ltb, eqb-true}
use Rattle.knots.specs.Refusal.{refuse, placed, checked, PointNotFinite, WeightBad, KnotsUnordered, KnotRepeated}
use Rattle.std.proofs.lemmas.Result.{err_from_is_err_and}
use Rattle.knots.specs.Span.{span_refusal}
use Rattle.knots.specs.declared.refusal.Refusal.{Refusal}
use Rattle.knots.proofs.Answers.{unrefused, spoken-span}
use Rattle.knots.proofs.Refusals.{let_by, stopped_by}
use Rattle.knots.proofs.span.find_by.Goals as goal

pub returns-in_err-span_refusal : goal.returns-in_err-span_refusal
returns-in_err-span_refusal c = let p = err_from_is_err_and c.from_residual.result c.from_residual.ensures.1 in
    let s = stopped_by _ c.in_err-span_refusal.ensures in
    rw (p.1, p.2) (sym s.0, λ z. s.1 (ap (λ (r : Refusal). r.number) (sym s.0) ∙ z))

pub returns : goal.returns
returns c = let a = c.args in
    let none = let_by _ c.in_ok-span_refusal.ensures in
    let q = unrefused a.degree a.count a.knots.now a.u a.clamps none in
    (none, spoken-span a.degree a.count a.knots.now a.u a.clamps q.2 _ (c.span_of.ensures.meets q.0 q.1))
