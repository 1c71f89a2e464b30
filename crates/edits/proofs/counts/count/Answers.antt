-- `edits::counts::count` meets its contract.
-- Assumes nothing.
use Prim.Native.Nat.{ℕ, ◌+◌}
use mathlib.Core.Path.{refl, ◌∙◌, ap}
use mathlib.Core.Bool.{cond}
use native.Mathlib.Omega.{arith}
use lib.Ieee.{eq, lt}
use Rattle.doubles.specs.Run.{at}
use Rattle.edits.specs.Counts.{bit, count_below}
use Rattle.edits.proofs.CountLoop.{bit_le, count-more, count-le}
use Rattle.edits.proofs.counts.count.Goals as goal

pub loop-x-init : goal.loop-x-init
unfolding count_below
loop-x-init c = refl

pub overflow_add-n : goal.overflow_add-n
overflow_add-n c = let a = c.args in
    let b = count-le (λ j. cond a.equal (eq (at a.knots.now j) a.t) (lt (at a.knots.now j) a.t)) c.loop-x.x-index in
    let o = bit_le c.passes.result in omega (arith, c.bit_of-n.ensures)

pub loop-x-preserved : goal.loop-x-preserved
loop-x-preserved c = let a = c.args in
    let l = c.loop-x in
    count-more (λ j. cond a.equal (eq (at a.knots.now j) a.t) (lt (at a.knots.now j) a.t)) l.x-index _ _ l.invariant (ap (λ (k : ℕ). l.n + k) (c.bit_of-n.ensures ∙ ap bit c.passes.ensures))
