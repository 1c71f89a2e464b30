-- The answer of a bound. Definitions only.
use Rattle.std.specs.Prelude.{Result}
use Rattle.bounds.specs.declared.answer.NurbsBounds.{NurbsBounds}
use Rattle.bounds.specs.declared.answer.Triple.{Triple}
use Rattle.knots.specs.declared.refusal.Refusal.{Refusal}
use Rattle.bounds.specs.Numbers.{bounded_refusal, bounded_values, point_refusal, point_values}
use Rattle.exports.specs.Answer.{Answer, told}

abbrev pub bounded_answer : Result NurbsBounds Refusal → Answer
bounded_answer a = told (bounded_refusal a) (bounded_values a)

-- of the point alone
abbrev pub point_bounded_answer : Result Triple Refusal → Answer
point_bounded_answer a = told (point_refusal a) (point_values a)
