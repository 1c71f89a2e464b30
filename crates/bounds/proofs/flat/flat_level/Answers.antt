use Rattle.std.proofs.lemmas.Result.{err_from_is_err_and}
use mathlib.Core.Path.{sym}
use native.Mathlib.Omega.{arith}
use Rattle.jets.specs.Jet.{parameter_of}
use Rattle.jets.proofs.Levels.{walked-refused}
use Rattle.ends.specs.Flat.{flat_of}
use Rattle.ends.proofs.Net.{flat-refused}
use Rattle.bounds.specs.Flat.{flat_at}
use Rattle.bounds.proofs.Steps.{walk_start}
use Rattle.bounds.proofs.Flats.{flat-down, flat-done}
use Rattle.bounds.proofs.flat.flat_level.Goals as goal

pub loop-j-init : goal.loop-j-init
loop-j-init c = let a = c.args in λ f G R. walk_start a.knots.now a.along.degree a.along.span (parameter_of a.along.t) flat_of f (flat_at a.net.now) a.level R c.requires.level_nonzero c.requires.level_le_degree

pub returns-in_err-c : goal.returns-in_err-c
returns-in_err-c c = let a = c.args in
    let l = c.loop-j in
    let p = err_from_is_err_and c.from_residual.result c.from_residual.ensures.1 in
    λ f G R. rw (p.1, p.2) (walked-refused a.knots.now a.along.degree a.along.span (parameter_of a.along.t) f flat_of (flat_at l.net) a.level l.j (l.invariant f G R) c.requires.level_le_degree _
    (flat-refused _ _ _ _ (sym c.in_err-c.ensures)))

pub loop-j-preserved : goal.loop-j-preserved
loop-j-preserved c = let a = c.args in
    let l = c.loop-j in
    λ f G R. rw c.put_flat.ensures
    (flat-down a.knots.now a.along.degree a.along.span (parameter_of a.along.t) f G l.net a.level l.j (l.invariant f G R) c.requires.level_le_degree (omega (arith, l.auto.net, c.requires.degree_in_bounds_2)) _
    (rw (← c.flat_at.ensures, ← c.flat_at-in-loop-j.ensures) (sym c.in_ok-c.ensures)) (omega arith))

pub returns-in_ok-c : goal.returns-in_ok-c
returns-in_ok-c c = let a = c.args in
    let l = c.loop-j in
    λ f G R. rw c.put_flat.ensures
    (flat-done a.knots.now a.along.degree a.along.span (parameter_of a.along.t) f G l.net a.level l.j (l.invariant f G R) c.requires.level_le_degree (omega (arith, l.auto.net, c.requires.degree_in_bounds_2)) _
    (rw (← c.flat_at.ensures, ← c.flat_at-in-loop-j.ensures) (sym c.in_ok-c.ensures)) (omega arith))
