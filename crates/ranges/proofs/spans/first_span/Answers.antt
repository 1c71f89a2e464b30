-- `ranges::spans::first_span` meets its contract.
-- Assumes nothing.
use Prim.Native.Nat.{◌+◌, ◌-◌}
use mathlib.Core.Path.{◌≡◌, refl, sym, ◌∙◌}
use native.Mathlib.Omega.{arith}
use Rattle.ranges.specs.Range.{in_span, span_over}
use Rattle.ranges.proofs.First.{first_taken, first-passed, first-none}
use Rattle.ranges.proofs.spans.first_span.Goals as goal

pub loop-i-init : goal.loop-i-init
unfolding span_over
loop-i-init c = refl

pub returns-then-in_span : goal.returns-then-in_span
returns-then-in_span c = let a = c.args in
    let l = c.loop-i in
    let t = c.loop-i-test.true in
    sym (sym l.invariant ∙ first_taken (in_span a.knots.now a.lo a.hi) (a.count - l.i) l.i (omega arith) (sym c.in_span.ensures ∙ c.if-in_span.true))

pub loop-i-preserved : goal.loop-i-preserved
loop-i-preserved c = let a = c.args in
    let i = c.loop-i.i in
    let t = c.loop-i-test.true in
    let e : a.count - (i + 1) ≡ a.count - i - 1 = omega arith in
    rw e (sym (first-passed (in_span a.knots.now a.lo a.hi) (a.count - i) i (omega arith) (sym c.in_span.ensures ∙ c.if-in_span.false)) ∙ c.loop-i.invariant)

pub returns : goal.returns
returns c = let a = c.args in
    let l = c.loop-i in
    let t = c.loop-i-test.false in
    let e : a.count ≡ l.i = omega arith in
    e ∙ sym (sym l.invariant ∙ first-none (in_span a.knots.now a.lo a.hi) (a.count - l.i) l.i (omega arith))
