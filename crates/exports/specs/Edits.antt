-- The number that an edit returns. Definitions only.
use Rattle.std.specs.Prelude.{Result}
use Rattle.edits.specs.declared.answer.FormedCurve.{FormedCurve}
use Rattle.knots.specs.declared.refusal.Refusal.{Refusal}
use Rattle.std.specs.Prelude.{ℕ, ◌+◌, ◌*◌, get_or}
use Rattle.edits.specs.Numbers.{edit_answer_refusal, edit_answer_values}
use Rattle.exports.specs.Tables.{packed_of}

-- how many points the formed curve has: the second of its numbers, 0 after a refusal
abbrev pub points_of : Result FormedCurve Refusal → ℕ
points_of a = get_or (edit_answer_values a) 1 0

-- the refusal, packed; where there is none, the count of points in the high half
abbrev pub edit_number : Result FormedCurve Refusal → ℕ
edit_number a = points_of a * 4294967296 + packed_of (edit_answer_refusal a)
