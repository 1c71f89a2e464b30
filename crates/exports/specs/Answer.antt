-- What an exported call answers, and from that the number it returns and the run it leaves. Definitions only.
use Rattle.std.specs.Prelude.{ℕ, zero, suc, cond, ◌≡◌, List, ◌++◌, length, drop, ltb, Float}
use Rattle.knots.specs.Clear.{zeros}
use Rattle.knots.specs.Refusal.{row}
use Rattle.knots.specs.declared.refusal.Reason.TheVariants.{LengthBad}
use Rattle.knots.specs.declared.refusal.Refusal.{Refusal}
use Rattle.exports.specs.Tables.{packed_of}

-- a refusal by the number returned, or doubles for the front of the lent run
pub data Answer : Type 0 where
  refused : ℕ → Answer
  values : List Float → Answer

-- by a number: 0 is no refusal
abbrev pub answer_by : ℕ → List Float → Answer
answer_by zero xs = values xs
answer_by (suc k) xs = refused (suc k)

-- by a refusal, packed
abbrev pub told : Refusal → List Float → Answer
told r xs = answer_by (packed_of r) xs

-- the number returned where n doubles are lent: 30 says that the answer has no room
abbrev pub number : Answer → ℕ → ℕ
number (refused k) n = k
number (values xs) n = cond (ltb n (length xs)) (row LengthBad).0 0

-- the lent run of n doubles afterwards
abbrev pub run : Answer → ℕ → List Float
run (refused k) n = zeros n
run (values xs) n = cond (ltb n (length xs)) (zeros n) (xs ++ drop (length xs) (zeros n))

pub record Leaves (a : Answer) (before : List Float) (after : List Float) (r : ℕ) : Type 0 where
  pub returned : r ≡ number a (length before)
  pub left : after ≡ run a (length before)
