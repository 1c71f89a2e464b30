use Rattle.exports.specs.Points.{curve_answer}
use Rattle.exports.proofs.Put.{leaves_by}
use mathlib.Core.Path.{ap}
use Rattle.step_exports.proofs.tasulogi_step_eval_at.Goals as goal

pub returns : goal.returns
returns c = leaves_by (ap curve_answer c.eval_at.ensures) c.put_curve.ensures
