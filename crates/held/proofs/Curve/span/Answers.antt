-- Of find_span's answer there is one that its promise permits.
-- Assumes nothing.
use Rattle.knots.proofs.Answers.{answer-is}
use Rattle.held.proofs.Curve.span.Goals as goal

pub returns : goal.returns
returns c = answer-is _ _ _ _ _ _ c.find_span.ensures
