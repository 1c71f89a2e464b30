use Prim.Native.Nat.{ℕ}
use Rattle.jets.specs.declared.net.Control.{Control}
use Rattle.jets.proofs.Levels.{Walked}
use Rattle.bounds.specs.Levels.{held, Reached}
use Rattle.bounds.proofs.levels.one_level.Given as goal

abbrev pub invariant-loop-j : goal.invariant-loop-j
invariant-loop-j l = let a = l.along in (c : ℕ → Control) → Reached l.knots a.degree a.span a.t (λ x. x) c (held l.initial.net) l.level → Walked l.knots a.degree a.span a.t c (λ x. x) (held l.net) l.level l.j
