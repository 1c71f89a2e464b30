-- What a walk over one run finds: how often a number stands in it, its largest number, whether it is one number throughout.
-- Assumes nothing.
use Rattle.std.specs.Prelude.{ℕ, zero, suc, ◌+◌, ◌-◌, Bool, true, false, List, length, Float}
use Rattle.std.specs.Float.Ieee.{lt, eq}
use Rattle.doubles.specs.Run.{at}
use Rattle.doubles.specs.Value.{zero+}
use Rattle.knots.specs.Below.{all_below}
use Rattle.runs.specs.Larger.{largest_from}

-- 1 for yes
abbrev pub bit : Bool → ℕ
bit true = 1
bit false = 0

-- how many places below n pass a test
unfoldable pub count_below : (ℕ → Bool) → ℕ → ℕ
count_below f zero = 0
count_below f (suc n) = count_below f n + bit (f n)

-- how many knots equal t as numbers
unfoldable pub multiplicity_of : List Float → Float → ℕ
multiplicity_of ks t = count_below (λ j. eq (at ks j) t) (length ks)

-- how many are missing for t to stand degree + 1 times
abbrev pub missing_of : ℕ → List Float → Float → ℕ
missing_of p ks t = p + 1 - multiplicity_of ks t

-- how many knots are below t
unfoldable pub below_of : List Float → Float → ℕ
below_of ks t = count_below (λ j. lt (at ks j) t) (length ks)

-- the largest of a run, and +0.0 at least
unfoldable pub largest_of : List Float → Float
largest_of ws = largest_from zero+ (at ws) (length ws)

-- every number of a run equals x as a number
unfoldable pub all_equal : List Float → Float → Bool
all_equal xs x = all_below (λ k. eq (at xs k) x) (length xs)
