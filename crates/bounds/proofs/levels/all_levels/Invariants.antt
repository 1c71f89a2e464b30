use Rattle.bounds.specs.Levels.{held, Reached}
use Rattle.bounds.proofs.levels.all_levels.Given as goal

abbrev pub invariant-loop-level : goal.invariant-loop-level
invariant-loop-level l = Reached l.knots l.along.degree l.along.span l.along.t (λ x. x) (held l.initial.net) (held l.net) l.level
