-- `ranges::read::read_refusal` meets its contract: each return is a row of the table, the tests before it are the rows above that did not apply.
-- Assumes nothing.
use Prim.Native.Nat.{ℕ, ◌+◌, ◌-◌, ◌/◌, ◌≤◌}
use mathlib.Core.Path.{sym, ◌∙◌, ap, subst}
use mathlib.Core.List.{List}
use native.Mathlib.Omega.{arith}
use lib.ListN.{length, drop, length-take, length-drop}
use lib.Ieee.{Float}
use Rattle.std.specs.Prelude.{Err}
use Rattle.knots.specs.Refusal.{refuse, placed, checked}
use Rattle.knots.specs.declared.refusal.Reason.TheVariants.{KnotsUnordered, PointNotFinite, WeightBad}
use Rattle.knots.proofs.FirstPlace.{unordered-below, bad-below}
use Rattle.ranges.specs.Read.{part, read_knots, read_weights, read_refusal}
use borrow.Author.Rules.{rules}
use Rattle.ranges.proofs.read.read_refusal.Goals as goal

-- a place in a part of a run is one in the run
in-part : (a b : ℕ) (xs : List Float) (k : ℕ) → k ≤ length (part a b xs) → a ≤ length xs → a + k ≤ length xs
in-part a b xs k h l = omega (arith, length-take (b - a) (drop a xs), length-drop a xs)

pub overflow_add-from-then-not-is_ordered : goal.overflow_add-from-then-not-is_ordered
overflow_add-from-then-not-is_ordered c = let a = c.args in
    let p = c.requires in
    let ks = read_knots a.curve.degree a.s a.curve.knots.now in
    let b =
    in-part (a.s - a.curve.degree + 1) (a.s + a.curve.degree + 1) a.curve.knots.now _ (subst (λ (k : ℕ). k ≤ length ks) (sym c.unordered_at.ensures) (unordered-below ks)) (omega arith) in
    search rules

pub returns-then-not-is_ordered : goal.returns-then-not-is_ordered
unfolding read_refusal checked
returns-then-not-is_ordered c = let a = c.args in
    simp (sym c.is_ordered.ensures ∙ c.if-not-is_ordered.true)
    (ap Err (c.refuse_at.ensures ∙ ap (λ (k : ℕ). placed (a.s - a.curve.degree + 1 + k) (refuse KnotsUnordered)) c.unordered_at.ensures))

pub returns-then-not-all_finite : goal.returns-then-not-all_finite
unfolding read_refusal checked
returns-then-not-all_finite c = let a = c.args in
    simp (
      sym c.is_ordered.ensures ∙ c.if-not-is_ordered.false,
      sym c.all_finite.ensures ∙ c.if-not-all_finite.true,
    ) (ap Err (c.refuse_at-then-not-all_finite.ensures ∙ ap (λ (k : ℕ). placed (a.s - a.curve.degree + k / 3) (refuse PointNotFinite)) c.non_finite_at.ensures))

pub returns-then-not-curve : goal.returns-then-not-curve
unfolding read_refusal checked
returns-then-not-curve c = simp (
  sym c.is_ordered.ensures ∙ c.if-not-is_ordered.false,
  sym c.all_finite.ensures ∙ c.if-not-all_finite.false,
  c.if-not-curve.true,
)

pub slice_bounds-ws-end : goal.slice_bounds-ws-end
slice_bounds-ws-end c = let h = c.requires.s_in_bounds_2 c.if-not-curve.false in omega arith

pub overflow_add-first-then-not-all_weights : goal.overflow_add-first-then-not-all_weights
overflow_add-first-then-not-all_weights c = let a = c.args in
    let w = c.requires.s_in_bounds_2 c.if-not-curve.false in
    let ws = read_weights a.curve.degree a.s a.curve.weights.now in
    let b = in-part (a.s - a.curve.degree) (a.s + 1) a.curve.weights.now _ (subst (λ (k : ℕ). k ≤ length ws) (sym c.bad_weight_at.ensures) (bad-below ws)) (omega arith) in
    search rules

pub returns-then-not-all_weights : goal.returns-then-not-all_weights
unfolding read_refusal checked
returns-then-not-all_weights c = let a = c.args in
    simp (
      sym c.is_ordered.ensures ∙ c.if-not-is_ordered.false,
      sym c.all_finite.ensures ∙ c.if-not-all_finite.false,
      c.if-not-curve.false,
      sym c.all_weights.ensures ∙ c.if-not-all_weights.true,
    ) (ap Err (c.refuse_at-then-not-all_weights.ensures ∙ ap (λ (k : ℕ). placed (a.s - a.curve.degree + k) (refuse WeightBad)) c.bad_weight_at.ensures))

pub returns : goal.returns
unfolding read_refusal checked
returns c = simp (
  sym c.is_ordered.ensures ∙ c.if-not-is_ordered.false,
  sym c.all_finite.ensures ∙ c.if-not-all_finite.false,
  c.if-not-curve.false,
  sym c.all_weights.ensures ∙ c.if-not-all_weights.false,
)
