-- The answer of `read_table` in the paper's numbers, case by case: its refusal, which is `accepted` where there is none, and the degree with the lengths of the runs. Definitions only.
use Rattle.std.specs.Prelude.{Ok}
use Rattle.std.specs.Prelude.{Result, Err}
use Rattle.std.specs.Prelude.{ℕ, List, [], ◌∷◌}
use Rattle.knots.specs.Refusal.{accepted}
use Rattle.knots.specs.declared.refusal.Refusal.{Refusal}
use Rattle.record.specs.declared.table.Curve.{Curve}

abbrev pub table_answer_refusal : Result Curve Refusal → Refusal
table_answer_refusal (Ok c) = accepted
table_answer_refusal (Err r) = r

-- degree, knots, points, weights
abbrev pub table_answer_values : Result Curve Refusal → List ℕ
table_answer_values (Ok c) = c.layout.degree ∷ c.layout.knots ∷ c.layout.points ∷ c.layout.weights ∷ []
table_answer_values (Err r) = []
