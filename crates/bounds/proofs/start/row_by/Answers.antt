use mathlib.Core.Path.{sym, ap}
use Prim.Native.Nat.{ℕ, ◌+◌}
use native.Mathlib.Omega.{arith}
use Rattle.jets.proofs.Fill.{fill_step}
use Rattle.jets.proofs.Levels.{held-is}
use Rattle.std.specs.Prelude.{Ok}
use Rattle.bounds.specs.Start.{start_at}
use Rattle.bounds.proofs.start.row_by.Goals as goal
use Rattle.bounds.proofs.start.row_by.Goals.{else-loop-m-test, then-loop-m-test+else-m-m-end}

pub loop-m-preserved : goal.loop-m-preserved
unfolding start_at
loop-m-preserved c = let a = c.args in
    fill_step (λ (i : ℕ). Ok (start_at a.points.now a.weights.now a.rational a.base a.o a.r i)) a.along.degree c.loop-m.net c.loop-m.m c.loop-m.invariant c.loop-m-test.true
    c.requires.degree_bound _ (sym (ap Ok (rw (c.control.ensures, c.weight_at.ensures, c.point_at.ensures))))

pub returns : goal.returns
unfolding start_at
returns c = let a = c.args in
    let m = c.loop-m in
    elim c.loop-m-test.branch [
      | else-loop-m-test w ↦
          rw (c.all_levels.ensures, w.net-is)
          (held-is (start_at a.points.now a.weights.now a.rational a.base a.o a.r) a.knots.now a.along.degree a.along.span a.along.t m.net m.m m.invariant w.loop-m-test.false)
      | then-loop-m-test+else-m-m-end w ↦
          rw (c.all_levels.ensures, w.net-is)
          (held-is (start_at a.points.now a.weights.now a.rational a.base a.o a.r) a.knots.now a.along.degree a.along.span a.along.t _ (m.m + 1)
          (fill_step (λ (i : ℕ). Ok (start_at a.points.now a.weights.now a.rational a.base a.o a.r i)) a.along.degree m.net m.m m.invariant w.loop-m-test.true
          c.requires.degree_bound _ (sym (ap Ok (rw (w.control.ensures, w.weight_at.ensures, w.point_at.ensures)))))
          (omega arith))
    ]
