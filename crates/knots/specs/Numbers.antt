-- An answer in the paper's numbers, case by case: its refusal, which is `accepted` where there is none, and its values. Definitions only.
use Rattle.std.specs.Prelude.{ℕ, List, [], ◌∷◌, Result, Ok, Err}
use Rattle.interval.specs.declared.Interval.{Interval}
use Rattle.interval.specs.declared.DivideError.{DivideError}
use Rattle.knots.specs.Refusal.{accepted, refused_quotient}
use Rattle.knots.specs.declared.refusal.Refusal.{Refusal}

-- a divisor that holds 0 is 26; a quotient that cannot be formed 28
abbrev pub quotient_refusal : Result Interval DivideError → Refusal
quotient_refusal (Ok i) = accepted
quotient_refusal (Err e) = refused_quotient e

-- what is made of the interval, or the refusal
abbrev pub quotient_by : {A : Type 0} → (Interval → Result A Refusal) → Result Interval DivideError → Result A Refusal
quotient_by f (Ok i) = f i
quotient_by f (Err e) = Err (refused_quotient e)

abbrev pub span_answer_refusal : Result ℕ Refusal → Refusal
span_answer_refusal (Ok s) = accepted
span_answer_refusal (Err r) = r

abbrev pub span_answer_values : Result ℕ Refusal → List ℕ
span_answer_values (Ok s) = s ∷ []
span_answer_values (Err r) = []
