-- An answer for many rows in the paper's numbers, case by case: its refusal, which is `accepted` where there is none, and how many rows there are. Definitions only.
use Rattle.std.specs.Prelude.{Result, Ok, Err}
use Rattle.std.specs.Prelude.{ℕ, List, [], ◌∷◌}
use Rattle.knots.specs.Refusal.{accepted}
use Rattle.knots.specs.declared.refusal.Refusal.{Refusal}

abbrev pub many_answer_refusal : Result ℕ Refusal → Refusal
many_answer_refusal (Ok n) = accepted
many_answer_refusal (Err r) = r

abbrev pub many_answer_values : Result ℕ Refusal → List ℕ
many_answer_values (Ok n) = n ∷ []
many_answer_values (Err r) = []
