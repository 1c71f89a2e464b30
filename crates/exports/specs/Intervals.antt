-- The answers of the interval calls: the operation's result where the operands are intervals, else 99. Definitions only.
use Rattle.std.specs.Prelude.{Option, Some, None, Result}
use Rattle.interval.specs.declared.DivideError.{DivideError}
use Rattle.std.specs.Prelude.{ℕ, cond, eqb, [], Float}
use Rattle.interval.specs.declared.Interval.{Interval}
use Rattle.interval.specs.declared.Sign.{Sign}
use Rattle.interval.specs.declared.Sign.TheVariants.{Positive, Negative, Zero, Unknown}
use Rattle.interval.specs.Numbers.{ends_onto, new_values, quotient_values}
use Rattle.interval.specs.Ops.{contains_of, sign_of, sqr_of, neg_of, hull_of, add_of, sub_of, mul_of}
use Rattle.knots.specs.Numbers.{quotient_refusal}
use Rattle.exports.specs.Answer.{Answer, refused, values, answer_by, told}

-- two doubles are no interval: the paper has no number for that
abbrev pub no-interval : ℕ
no-interval = 99

-- the two ends, low before high
abbrev pub ends : Interval → Answer
ends i = values (ends_onto i [])

abbrev pub new_number : Option Interval → ℕ
new_number (Some a) = 0
new_number None = no-interval

abbrev pub new_answer : Option Interval → Answer
new_answer n = answer_by (new_number n) (new_values n)

abbrev pub quotient_answer : Result Interval DivideError → Answer
quotient_answer q = told (quotient_refusal q) (quotient_values q)

-- ---- an operation on operands that are intervals
abbrev pub on_new : Option Interval → (Interval → Answer) → Answer
on_new (Some a) f = f a
on_new None f = refused no-interval

abbrev pub both_of : Option Interval → Option Interval → Option (Interval × Interval)
both_of (Some a) (Some b) = Some (a, b)
both_of (Some a) None = None
both_of None b = None

abbrev pub on_both : Option (Interval × Interval) → (Interval → Interval → Answer) → Answer
on_both (Some (a, b)) f = f a b
on_both None f = refused no-interval

abbrev pub inside_number : Option Interval → Float → ℕ
inside_number (Some a) x = cond (contains_of a x) 1 0
inside_number None x = no-interval

abbrev pub sign_case : Sign → ℕ
sign_case Positive = 1
sign_case Negative = 2
sign_case Zero = 3
sign_case Unknown = 0

abbrev pub sign_number : Option Interval → ℕ
sign_number (Some a) = sign_case (sign_of a)
sign_number None = no-interval
