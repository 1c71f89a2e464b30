use Prim.Native.Nat.{◌+◌}
use native.Mathlib.Omega.{arith}
use Rattle.std.proofs.lemmas.Result.{err_from_is_err_and}
use Rattle.jets.specs.Jet.{parameter_of}
use Rattle.ends.specs.Flat.{flat_of, flat_net}
use mathlib.Core.Path.{ap}
use Rattle.bounds.specs.Flat.{flat_at}
use Rattle.bounds.proofs.Steps.{reached_start}
use Rattle.bounds.proofs.Flats.{levels-end}
use Rattle.bounds.proofs.flat.flat_levels.Goals as goal
use Rattle.bounds.proofs.flat.flat_levels.Goals.{else-loop-level-test, then-loop-level-test+in_ok-flat_level+else-level-level-end}

pub loop-level-init : goal.loop-level-init
loop-level-init c = let a = c.args in λ f G F. reached_start a.knots.now a.along.degree a.along.span (parameter_of a.along.t) flat_of f (flat_at a.net.now) (λ i h. F i (omega arith))

pub returns-in_err-flat_level : goal.returns-in_err-flat_level
returns-in_err-flat_level c = let p = err_from_is_err_and c.from_residual.result c.from_residual.ensures.1 in
    λ f G F. rw (p.1, p.2) (ap flat_net (c.in_err-flat_level.ensures f G (c.loop-level.invariant f G F)))

pub returns : goal.returns
returns c = let a = c.args in
    let l = c.loop-level in
    λ f G F. elim c.loop-level-test.branch [
      | else-loop-level-test w ↦
          rw (c.flat_at.ensures, w.net-is) (levels-end a.knots.now a.along.degree a.along.span (parameter_of a.along.t) f l.net l.level (l.invariant f G F) w.loop-level-test.false)
      | then-loop-level-test+in_ok-flat_level+else-level-level-end w ↦
          let R = w.in_ok-flat_level.ensures f G (l.invariant f G F) in
          rw (c.flat_at.ensures, w.net-is) (levels-end a.knots.now a.along.degree a.along.span (parameter_of a.along.t) f w.flat_level.new.net (l.level + 1) R (omega arith))
    ]
