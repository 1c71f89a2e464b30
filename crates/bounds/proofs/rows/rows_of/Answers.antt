use Rattle.std.proofs.lemmas.Result.{err_from_is_err_and}
use mathlib.Core.Path.{sym}
use Prim.Native.Nat.{ℕ, ◌+◌, ◌*◌}
use native.Mathlib.Omega.{arith}
use Rattle.jets.proofs.Fill.{fill_step, fill-refused}
use Rattle.jets.proofs.Levels.{held-filled}
use Rattle.bounds.specs.Start.{row_of}
use Rattle.bounds.proofs.rows.rows_of.Goals as goal
use Rattle.bounds.proofs.rows.rows_of.Goals.{else-loop-m-test, then-loop-m-test+in_ok-net+else-m-m-end}

pub returns-in_err-net : goal.returns-in_err-net
returns-in_err-net c = let a = c.args in
    let p = err_from_is_err_and c.from_residual.result c.from_residual.ensures.1 in
    rw (p.1, p.2) (fill-refused (λ (i : ℕ). row_of a.points.now a.weights.now a.rational ((a.row + i) * a.nv + a.col) a.o a.scale a.vk.now a.v.degree a.v.span a.v.t) a.u.degree a.uk.now a.u.span a.u.t
    c.loop-m.net c.loop-m.m c.loop-m.invariant c.loop-m-test.true _ (sym c.in_err-net.ensures))

pub loop-m-preserved : goal.loop-m-preserved
loop-m-preserved c = let a = c.args in
    fill_step (λ (i : ℕ). row_of a.points.now a.weights.now a.rational ((a.row + i) * a.nv + a.col) a.o a.scale a.vk.now a.v.degree a.v.span a.v.t) a.u.degree
    c.loop-m.net c.loop-m.m c.loop-m.invariant c.loop-m-test.true c.requires.degree_bound _ (sym c.in_ok-net.ensures)

pub returns : goal.returns
returns c = let a = c.args in
    let m = c.loop-m in
    elim c.loop-m-test.branch [
      | else-loop-m-test w ↦
          rw (c.all_levels.ensures, w.net-is)
          (held-filled (λ (i : ℕ). row_of a.points.now a.weights.now a.rational ((a.row + i) * a.nv + a.col) a.o a.scale a.vk.now a.v.degree a.v.span a.v.t) a.uk.now a.u.degree a.u.span a.u.t m.net m.m m.invariant w.loop-m-test.false)
      | then-loop-m-test+in_ok-net+else-m-m-end w ↦
          rw (c.all_levels.ensures, w.net-is)
          (held-filled (λ (i : ℕ). row_of a.points.now a.weights.now a.rational ((a.row + i) * a.nv + a.col) a.o a.scale a.vk.now a.v.degree a.v.span a.v.t) a.uk.now a.u.degree a.u.span a.u.t _ (m.m + 1)
          (fill_step (λ (i : ℕ). row_of a.points.now a.weights.now a.rational ((a.row + i) * a.nv + a.col) a.o a.scale a.vk.now a.v.degree a.v.span a.v.t) a.u.degree m.net m.m m.invariant w.loop-m-test.true
          c.requires.degree_bound _ (sym w.in_ok-net.ensures))
          (omega arith))
    ]
