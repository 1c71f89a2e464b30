-- An edit's answer in the paper's numbers, case by case: its refusal, which is `accepted` where a curve is formed, and how many points that has. Definitions only.
use Rattle.std.specs.Prelude.{ℕ, List, [], ◌∷◌, Result, Ok, Err}
use Rattle.knots.specs.Refusal.{accepted}
use Rattle.knots.specs.declared.refusal.Refusal.{Refusal}
use Rattle.edits.specs.declared.answer.FormedCurve.{FormedCurve}

abbrev pub edit_answer_refusal : Result FormedCurve Refusal → Refusal
edit_answer_refusal (Ok c) = accepted
edit_answer_refusal (Err r) = r

-- the degree and the count of points
abbrev pub edit_answer_values : Result FormedCurve Refusal → List ℕ
edit_answer_values (Ok c) = c.degree ∷ c.count ∷ []
edit_answer_values (Err r) = []
