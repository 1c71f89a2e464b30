-- `exports::spans::tasulogi_find_span_clamped` meets its contract: of find_span_clamped's answer there is one that its promise permits.
-- Assumes nothing.
use mathlib.Core.Path.{◌∙◌, ap}
use Rattle.knots.specs.Span.{clamping}
use Rattle.knots.proofs.Answers.{answer-is}
use Rattle.exports.specs.Tables.{span_number}
use Rattle.exports.proofs.spans.tasulogi_find_span_clamped.Goals as goal

pub returns : goal.returns
returns c = let a = c.args in
    c.span_number.ensures ∙ ap span_number (answer-is a.degree a.count a.knots.now a.u clamping c.find_span_clamped.result c.find_span_clamped.ensures)
