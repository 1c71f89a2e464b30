-- `many::boxes::span_count` meets its contract.
-- Assumes nothing.
use native.Mathlib.Omega.{arith}
use mathlib.Core.Path.{◌∙◌}
use Prim.Native.Nat.{◌-◌}
use Rattle.many.proofs.Bounded.{spans-few, count_none, count-here, count-not}
use Rattle.many.proofs.boxes.span_count.Goals as goal
use Rattle.many.proofs.boxes.span_count.Goals.{then-knots-s, else-knots-s}

pub loop-s-init : goal.loop-s-init
loop-s-init c = count_none c.args.knots.now c.args.degree

pub overflow_add-n : goal.overflow_add-n
overflow_add-n c = let a = c.args in
    let l = c.loop-s in
    omega (arith, l.invariant, spans-few a.knots.now (l.s - a.degree) a.degree)

pub loop-s-preserved : goal.loop-s-preserved
loop-s-preserved c = let a = c.args in
    let l = c.loop-s in
    elim c.if-knots-s.branch [
      | then-knots-s w ↦ w.n-is ∙ count-here a.knots.now a.degree l.s l.auto.s l.n l.invariant w.if-knots-s.true
      | else-knots-s w ↦ w.n-is ∙ count-not a.knots.now a.degree l.s l.auto.s l.n l.invariant w.if-knots-s.false
    ]
