-- The answers of evaluations. Definitions only.
use Rattle.std.specs.Prelude.{Result}
use Rattle.evaluate.specs.declared.curve.CurveDerivs.{CurveDerivs}
use Rattle.evaluate.specs.declared.curve2.CurveDerivs2.{CurveDerivs2}
use Rattle.evaluate.specs.declared.surface.SurfaceDerivs.{SurfaceDerivs}
use Rattle.knots.specs.declared.refusal.Refusal.{Refusal}
use Rattle.evaluate.specs.Numbers.{curve_answer_refusal, curve_answer_values, curve_answer2_refusal, curve_answer2_values, surface_answer_refusal, surface_answer_values}
use Rattle.exports.specs.Answer.{Answer, told}

abbrev pub curve_answer : Result CurveDerivs Refusal → Answer
curve_answer a = told (curve_answer_refusal a) (curve_answer_values a)

abbrev pub curve2_answer : Result CurveDerivs2 Refusal → Answer
curve2_answer a = told (curve_answer2_refusal a) (curve_answer2_values a)

abbrev pub surface_answer : Result SurfaceDerivs Refusal → Answer
surface_answer a = told (surface_answer_refusal a) (surface_answer_values a)
