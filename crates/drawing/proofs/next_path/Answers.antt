-- The line of a part of the span that is found, bounded.
-- Assumes nothing.
use Prim.Native.Nat.{ℕ, ◌+◌}
use mathlib.Core.Path.{◌≡◌, refl, sym, ◌∙◌}
use mathlib.Core.List.{List}
use lib.ListN.{length}
use lib.Ieee.{Float}
use borrow.Author.Rules.{rules}
use Rattle.listing.proofs.Ranges.{next-shown, end-shown}
use Rattle.drawing.specs.Drawing.{box_text, mark_of, parts_of, part_of, part_line, drawn_of}
use Rattle.bounds.specs.Curve.{bound_at}
use Rattle.knots.specs.Walk.{next_span}
use Rattle.knots.specs.Curve.{count_of}
use Rattle.drawing.proofs.next_path.Goals as goal

pub returns-in-Some : goal.returns-in-Some
unfolding drawn_of part_line
returns-in-Some c = let all = let a = c.args in
    let s = c.in-Some.field-0.span in
    let k = parts_of (count_of a.curve.points.now) in
    let j = part_of k a.part in
    let text : Float → Float → List ℕ = λ lower upper. box_text s j
    (bound_at a.curve.degree s a.curve.knots.now a.curve.points.now a.curve.rational a.curve.weights.now (mark_of lower upper j k) (mark_of lower upper (j + 1) k)) in
    let shown = rw (
      c.bound_part-answer.ensures,
      c.part_in-taken.ensures.value,
      c.parts_of-parts.ensures.value,
    ) at c.box_text-length.ensures in
    next-shown (drawn_of a.curve.degree a.curve.knots.now a.curve.points.now a.curve.rational a.curve.weights.now a.part) a.curve.knots.now
    (next_span a.curve.degree (count_of a.curve.points.now) a.curve.knots.now a.«from») 2304 text
    (sym c.in-Some.is ∙ c.next_range.ensures) refl shown in
    record { value = all.0; shown = all.1 }

pub returns-in-None : goal.returns-in-None
returns-in-None c = let all = let a = c.args in
    let long : length a.out.now ≡ 2304 = search rules in
    end-shown (drawn_of a.curve.degree a.curve.knots.now a.curve.points.now a.curve.rational a.curve.weights.now a.part) a.curve.knots.now
    (next_span a.curve.degree (count_of a.curve.points.now) a.curve.knots.now a.«from») 2304
    (sym c.in-None.is ∙ c.next_range.ensures) c.clear_bytes.ensures long in
    record { value = all.0; shown = all.1 }
