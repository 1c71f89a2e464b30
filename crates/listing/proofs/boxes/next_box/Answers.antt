-- The line of the span that is found, bounded.
-- Assumes nothing.
use Prim.Native.Nat.{ℕ}
use mathlib.Core.List.{List}
use mathlib.Core.Path.{◌≡◌, refl, sym, ◌∙◌}
use lib.ListN.{length}
use lib.Ieee.{Float}
use borrow.Author.Rules.{rules}
use Rattle.knots.specs.Walk.{next_span}
use Rattle.knots.specs.Curve.{count_of}
use Rattle.listing.proofs.Ranges.{next-shown, end-shown}
use Rattle.listing.specs.Boxes.{box_line, box_of}
use Rattle.bounds.specs.Curve.{bound_at}
use Rattle.listing.proofs.boxes.next_box.Goals as goal

pub returns-in-Some : goal.returns-in-Some
unfolding box_of
returns-in-Some c = let all = let a = c.args in
    let s = c.in-Some.field-0.span in
    let text : Float → Float → List ℕ = λ lower upper. box_line a.speeds s lower upper (bound_at a.curve.degree s a.curve.knots.now a.curve.points.now a.curve.rational a.curve.weights.now lower upper) in
    let shown = rw c.bound_span-answer.ensures.value at c.box_line-length.ensures in
    next-shown (box_of a.speeds a.curve.degree a.curve.knots.now a.curve.points.now a.curve.rational a.curve.weights.now) a.curve.knots.now
    (next_span a.curve.degree (count_of a.curve.points.now) a.curve.knots.now a.«from») 2304 text
    (sym c.in-Some.is ∙ c.next_range.ensures) refl shown in
    record { value = all.0; shown = all.1 }

pub returns-in-None : goal.returns-in-None
returns-in-None c = let all = let a = c.args in
    let long : length a.out.now ≡ 2304 = search rules in
    end-shown (box_of a.speeds a.curve.degree a.curve.knots.now a.curve.points.now a.curve.rational a.curve.weights.now) a.curve.knots.now
    (next_span a.curve.degree (count_of a.curve.points.now) a.curve.knots.now a.«from») 2304
    (sym c.in-None.is ∙ c.next_range.ensures) c.clear_bytes.ensures long in
    record { value = all.0; shown = all.1 }
