use mathlib.Core.Path.{refl}
use Prim.Native.Nat.{◌+◌}
use native.Mathlib.Omega.{arith}
use Rattle.std.proofs.lemmas.Result.{err_from_is_err_and}
use Rattle.bounds.specs.Levels.{held}
use Rattle.bounds.proofs.Steps.{reached_start, levels-end}
use Rattle.bounds.proofs.levels.all_levels.Goals as goal
use Rattle.bounds.proofs.levels.all_levels.Goals.{else-loop-level-test, then-loop-level-test+in_ok-one_level+else-level-level-end}

pub loop-level-init : goal.loop-level-init
loop-level-init c = let a = c.args in reached_start a.knots.now a.along.degree a.along.span a.along.t (λ x. x) (held a.net.now) (held a.net.now) (λ i h. refl)

pub returns-in_err-one_level : goal.returns-in_err-one_level
returns-in_err-one_level c = let p = err_from_is_err_and c.from_residual.result c.from_residual.ensures.1 in rw (p.1, p.2) (c.in_err-one_level.ensures (held c.args.net.now) c.loop-level.invariant)

pub returns : goal.returns
returns c = let a = c.args in
    let l = c.loop-level in
    elim c.loop-level-test.branch [
      | else-loop-level-test w ↦
          rw w.net-is (levels-end a.knots.now a.along.degree a.along.span a.along.t (held a.net.now) l.net l.level l.invariant w.loop-level-test.false (omega (arith, l.auto.net, c.requires.degree_in_net)) _)
      | then-loop-level-test+in_ok-one_level+else-level-level-end w ↦
          let R = w.in_ok-one_level.ensures (held a.net.now) l.invariant in
          rw w.net-is (levels-end a.knots.now a.along.degree a.along.span a.along.t (held a.net.now) w.one_level.new.net (l.level + 1) R (omega arith) (omega (arith, w.one_level.auto.net, l.auto.net, c.requires.degree_in_net)) _)
    ]
