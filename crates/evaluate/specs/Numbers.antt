-- An evaluation's answer in the paper's numbers, case by case: its refusal, which is `accepted` where there is none, and its values, point before derivatives. Definitions only.
use Rattle.std.specs.Prelude.{List, [], ◌∷◌, Float, Result, Ok, Err}
use Rattle.knots.specs.Refusal.{accepted}
use Rattle.knots.specs.declared.refusal.Refusal.{Refusal}
use Rattle.runs.specs.declared.vector.Vector.{Vector}
use Rattle.evaluate.specs.declared.curve.CurveDerivs.{CurveDerivs}
use Rattle.evaluate.specs.declared.curve2.CurveDerivs2.{CurveDerivs2}
use Rattle.evaluate.specs.declared.surface.SurfaceDerivs.{SurfaceDerivs}

-- the three coordinates, then xs
abbrev pub onto : Vector → List Float → List Float
onto v xs = v.x ∷ v.y ∷ v.z ∷ xs

abbrev pub curve_answer_refusal : Result CurveDerivs Refusal → Refusal
curve_answer_refusal (Ok d) = accepted
curve_answer_refusal (Err r) = r

abbrev pub curve_answer_values : Result CurveDerivs Refusal → List Float
curve_answer_values (Ok d) = onto d.point (onto d.d1 [])
curve_answer_values (Err r) = []

abbrev pub curve_answer2_refusal : Result CurveDerivs2 Refusal → Refusal
curve_answer2_refusal (Ok d) = accepted
curve_answer2_refusal (Err r) = r

abbrev pub curve_answer2_values : Result CurveDerivs2 Refusal → List Float
curve_answer2_values (Ok d) = onto d.point (onto d.d1 (onto d.d2 []))
curve_answer2_values (Err r) = []

abbrev pub surface_answer_refusal : Result SurfaceDerivs Refusal → Refusal
surface_answer_refusal (Ok d) = accepted
surface_answer_refusal (Err r) = r

abbrev pub surface_answer_values : Result SurfaceDerivs Refusal → List Float
surface_answer_values (Ok d) = onto d.point (onto d.du (onto d.dv []))
surface_answer_values (Err r) = []
