-- The line of the span that is found.
-- Assumes nothing.
use mathlib.Core.Path.{◌≡◌, refl, sym, ◌∙◌}
use lib.ListN.{length}
use borrow.Author.Rules.{rules}
use Rattle.knots.specs.Walk.{next_span}
use Rattle.listing.proofs.Ranges.{next-shown, end-shown}
use Rattle.listing.specs.Listing.{line_of}
use Rattle.listing.specs.Text.{span_line}
use Rattle.listing.proofs.next_line.Goals as goal

pub returns-in-Some : goal.returns-in-Some
unfolding line_of
returns-in-Some c = let all = let a = c.args in
    next-shown (line_of a.knots.now) a.knots.now (next_span a.degree a.count a.knots.now a.«from») 2304 (span_line c.in-Some.field-0.span)
    (sym c.in-Some.is ∙ c.next_range.ensures) refl c.span_line-length.ensures in
    record { value = all.0; shown = all.1 }

pub returns-in-None : goal.returns-in-None
returns-in-None c = let all = let a = c.args in
    let long : length a.out.now ≡ 2304 = search rules in
    end-shown (line_of a.knots.now) a.knots.now (next_span a.degree a.count a.knots.now a.«from») 2304
    (sym c.in-None.is ∙ c.next_range.ensures) c.clear_bytes.ensures long in
    record { value = all.0; shown = all.1 }
