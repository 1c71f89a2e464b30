use Rattle.std.proofs.lemmas.Result.{err_from_is_err_and}
use mathlib.Core.Path.{sym}
use native.Mathlib.Omega.{arith}
use Rattle.jets.proofs.Levels.{walked-refused, step-refused}
use Rattle.bounds.specs.Levels.{held}
use Rattle.bounds.proofs.Steps.{walk_start, net-down, net-done}
use Rattle.bounds.proofs.levels.one_level.Goals as goal

pub loop-j-init : goal.loop-j-init
loop-j-init c = let a = c.args in λ f R. walk_start a.knots.now a.along.degree a.along.span a.along.t (λ x. x) f (held a.net.now) a.level R c.requires.level_nonzero c.requires.level_le_degree

pub returns-in_err-net : goal.returns-in_err-net
returns-in_err-net c = let a = c.args in
    let l = c.loop-j in
    let p = err_from_is_err_and c.from_residual.result c.from_residual.ensures.1 in
    λ f R. rw (p.1, p.2) (walked-refused a.knots.now a.along.degree a.along.span a.along.t f (λ x. x) (held l.net) a.level l.j (l.invariant f R) c.requires.level_le_degree _
    (step-refused _ _ _ _ (sym c.in_err-net.ensures)))

pub loop-j-preserved : goal.loop-j-preserved
loop-j-preserved c = let a = c.args in
    let l = c.loop-j in
    λ f R. net-down a.knots.now a.along.degree a.along.span a.along.t f l.net a.level l.j (l.invariant f R) c.requires.level_le_degree (omega (arith, l.auto.net, c.requires.degree_in_net)) _ _ _ (sym c.in_ok-net.ensures) (omega arith)

pub returns : goal.returns
returns c = λ f R. absurd (omega (arith, (c.loop-j.invariant f R).inner c.requires.level_le_degree, c.loop-j-test.false))

pub returns-in_ok-net : goal.returns-in_ok-net
returns-in_ok-net c = let a = c.args in
    let l = c.loop-j in
    λ f R. net-done a.knots.now a.along.degree a.along.span a.along.t f l.net a.level l.j (l.invariant f R) c.requires.level_le_degree (omega (arith, l.auto.net, c.requires.degree_in_net)) _ _ _ (sym c.in_ok-net.ensures) (omega arith)
