-- `exports::points::tasulogi_eval2_clamped` meets its contract.
-- Assumes nothing.
use Rattle.exports.specs.Points.{curve2_answer}
use Rattle.exports.proofs.Put.{leaves_by}
use mathlib.Core.Path.{ap}
use Rattle.exports.proofs.points.tasulogi_eval2_clamped.Goals as goal

pub returns : goal.returns
returns c = leaves_by (ap curve2_answer c.eval2_clamped.ensures) c.put_curve2.ensures
