-- `exports::spans::tasulogi_find_span` meets its contract: of find_span's answer there is one that its promise permits.
-- Assumes nothing.
use mathlib.Core.Path.{◌∙◌, ap}
use Rattle.knots.specs.Span.{refusing}
use Rattle.knots.proofs.Answers.{answer-is}
use Rattle.exports.specs.Tables.{span_number}
use Rattle.exports.proofs.spans.tasulogi_find_span.Goals as goal

pub returns : goal.returns
returns c = let a = c.args in
    c.span_number.ensures ∙ ap span_number (answer-is a.degree a.count a.knots.now a.u refusing c.find_span.result c.find_span.ensures)
