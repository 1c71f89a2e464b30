-- The numbers that stand for refusals with direction and place, for spans, and for the next span. Definitions only.
use Rattle.std.specs.Prelude.{Option, Some, None, Result}
use Rattle.std.specs.Prelude.{ℕ, ◌+◌, ◌*◌, cond, ltb, eqb, get_or}
use Rattle.knots.specs.Numbers.{span_answer_refusal, span_answer_values}
use Rattle.knots.specs.declared.refusal.Refusal.{Refusal}

-- what is added for a direction
abbrev pub along : ℕ → ℕ
along d = cond (eqb d 0) 100 (cond (eqb d 1) 200 0)

-- the number alone, but for 1 to 7 of a surface, which have 100 more along u and 200 more along v
abbrev pub directed_of : Refusal → ℕ
directed_of r = cond (ltb 7 r.number) r.number (r.number + along r.direction)

-- a place in half of a number: the lesser of it and 2^32 - 1
abbrev pub half_of : ℕ → ℕ
half_of k = cond (ltb 4294967295 k) 4294967295 k

-- the place in the high half, number and direction in the low one
unfoldable pub packed_of : Refusal → ℕ
packed_of r = half_of r.place * 4294967296 + directed_of r

-- the number in the high half, the place in the low one
abbrev pub high_of : Refusal → ℕ
high_of r = r.number * 4294967296 + half_of r.place

-- the span, or the refusal with its number in the high half
abbrev pub span_number : Result ℕ Refusal → ℕ
span_number a = high_of (span_answer_refusal a) + get_or (span_answer_values a) 0 0

-- the next span, or the count n where there is none
abbrev pub next_number : ℕ → Option ℕ → ℕ
next_number n (Some s) = s
next_number n None = n
