-- `exports::points::tasulogi_eval_clamped` meets its contract.
-- Assumes nothing.
use Rattle.exports.specs.Points.{curve_answer}
use Rattle.exports.proofs.Put.{leaves_by}
use mathlib.Core.Path.{ap}
use Rattle.exports.proofs.points.tasulogi_eval_clamped.Goals as goal

pub returns : goal.returns
returns c = leaves_by (ap curve_answer c.eval_clamped.ensures) c.put_curve.ensures
