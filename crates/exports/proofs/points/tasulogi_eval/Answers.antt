-- `exports::points::tasulogi_eval` meets its contract.
-- Assumes nothing.
use Rattle.exports.specs.Points.{curve_answer}
use Rattle.exports.proofs.Put.{leaves_by}
use mathlib.Core.Path.{ap}
use Rattle.exports.proofs.points.tasulogi_eval.Goals as goal

pub returns : goal.returns
returns c = leaves_by (ap curve_answer c.eval.ensures) c.put_curve.ensures
