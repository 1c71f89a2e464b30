-- The lines of a curve's nonempty spans: which one comes next, and all of them in order.
-- Assumes nothing.
use Rattle.std.specs.Prelude.{Option, Some, None}
use Rattle.listing.specs.declared.Line.{Line}
use Rattle.std.specs.Prelude.{ℕ, zero, suc, ◌+◌, ◌-◌, cond, List, [], ◌++◌, length, Float}
use Rattle.doubles.specs.Run.{at}
use Rattle.knots.specs.Span.{nonempty}
use Rattle.listing.specs.Text.{span_line}

-- the line of the span s of a run of knots
unfoldable pub line_of : List Float → ℕ → List ℕ
line_of ks s = span_line s (at ks s) (at ks (s + 1))

-- ---- one line, where each span has one
-- what is shown of the next span: its line, and nothing where there is none
abbrev pub shown_of : (ℕ → List ℕ) → Option ℕ → List ℕ
shown_of line (Some s) = line s
shown_of line None = []

-- the answer of `next_line` and `next_box`
abbrev pub answer_of : (ℕ → List ℕ) → Option ℕ → Option Line
answer_of line (Some s) = Some (record { span = s; length = length (line s) })
answer_of line None = None

-- ---- the listing
-- the lines of the nonempty spans among the k places from s on
unfoldable pub lines_of : (ℕ → List ℕ) → ℕ → List Float → ℕ → List ℕ
lines_of line zero ks s = []
lines_of line (suc k) ks s = cond (nonempty ks s) (line s) [] ++ lines_of line k ks (s + 1)

-- all that is printed of a curve of degree p and n points
unfoldable pub listing : (ℕ → List ℕ) → ℕ → ℕ → List Float → List ℕ
listing line p n ks = lines_of line (n - p) ks p
