-- What follows the points is the end, or weights up to the end.
-- Assumes nothing.
use Rattle.std.specs.Prelude.{Some, None}
use mathlib.Core.Path.{◌≡◌, sym, ◌∙◌}
use native.Mathlib.Omega.{arith}
use Prim.Native.Nat.{◌+◌, ◌*◌}
use borrow.Author.Tests.{eq-eqb, ne_eqb}
use lib.ListN.{length, drop, length-drop}
use Rattle.record.specs.Reading.{run_of, end_of}
use Rattle.record.proofs.Tests.{is_below}
use Rattle.record.proofs.Runs.{length-patterns}
use Rattle.record.proofs.read.end_at.Goals as goal

pub returns-then-s-at : goal.returns-then-s-at
unfolding end_of
returns-then-s-at c = let a = c.args in
    let l = drop (11 + 8 * a.knots + 8 * a.points) a.s.now in
    let long = length-drop (11 + 8 * a.knots + 8 * a.points) a.s.now in
    rw (eq-eqb (length l) 0 (omega arith), length-patterns, length-patterns)

pub returns-in_default : goal.returns-in_default
unfolding end_of
returns-in_default c = let a = c.args in
    let l = drop (11 + 8 * a.knots + 8 * a.points) a.s.now in
    let long = length-drop (11 + 8 * a.knots + 8 * a.points) a.s.now in
    let e : run_of l 4 ≡ None = sym c.run_at.ensures.value ∙ c.in_default.is in
    c.malformed.ensures ∙ rw (ne_eqb (length l) 0 (λ z. omega arith), e)

pub overflow_mul-weights : goal.overflow_mul-weights
overflow_mul-weights c = let small = is_below 8192 _ _ c.in-Some.is c.run_at.ensures.below in omega arith

pub overflow_add-weights : goal.overflow_add-weights
overflow_add-weights c = let small = is_below 8192 _ _ c.in-Some.is c.run_at.ensures.below in omega arith

pub returns-then-s-at-2 : goal.returns-then-s-at-2
unfolding end_of
returns-then-s-at-2 c = let a = c.args in
    let l = drop (11 + 8 * a.knots + 8 * a.points) a.s.now in
    let long = length-drop (11 + 8 * a.knots + 8 * a.points) a.s.now in
    let w = c.in-Some.weights in
    let e : run_of l 4 ≡ Some w = sym c.run_at.ensures.value ∙ c.in-Some.is in
    c.malformed-then-s-at-2.ensures ∙ rw (ne_eqb (length l) 0 (λ z. omega arith), e, ne_eqb (length l) (3 + 8 * w) (λ z. omega arith))

pub returns : goal.returns
unfolding end_of
returns c = let a = c.args in
    let l = drop (11 + 8 * a.knots + 8 * a.points) a.s.now in
    let long = length-drop (11 + 8 * a.knots + 8 * a.points) a.s.now in
    let w = c.in-Some.weights in
    let e : run_of l 4 ≡ Some w = sym c.run_at.ensures.value ∙ c.in-Some.is in
    rw (ne_eqb (length l) 0 (λ z. omega arith), e, eq-eqb (length l) (3 + 8 * w) (omega arith), length-patterns, length-patterns, length-patterns)
