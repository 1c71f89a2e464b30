-- The numbers that a call for many rows returns.
use Rattle.std.specs.Prelude.{Result}
use Rattle.knots.specs.declared.refusal.Refusal.{Refusal}
use Rattle.std.specs.Prelude.{ℕ, ◌+◌, get_or}
use Rattle.many.specs.Numbers.{many_answer_refusal, many_answer_values}
use Rattle.exports.specs.Tables.{packed_of, high_of}

-- 0 where there are rows
abbrev pub rows_number : Result ℕ Refusal → ℕ
rows_number a = packed_of (many_answer_refusal a)

-- how many, or the refusal with its number in the high half
abbrev pub rows_count : Result ℕ Refusal → ℕ
rows_count a = high_of (many_answer_refusal a) + get_or (many_answer_values a) 0 0
