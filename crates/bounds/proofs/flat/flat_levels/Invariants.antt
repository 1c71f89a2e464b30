use Prim.Native.Nat.{ℕ, ◌+◌, ◌≤◌}
use Rattle.jets.specs.declared.net.Control.{Control}
use Rattle.jets.specs.Jet.{parameter_of}
use Rattle.ends.specs.Flat.{flat_of}
use Rattle.ends.specs.Good.{GoodPoint}
use Rattle.bounds.specs.Flat.{flat_at, FilledTo}
use Rattle.bounds.specs.Levels.{Reached}
use Rattle.bounds.proofs.flat.flat_levels.Given as goal

abbrev pub invariant-loop-level : goal.invariant-loop-level
invariant-loop-level l = let a = l.along in
    (c : ℕ → Control) → ((m : ℕ) → m ≤ a.degree → GoodPoint (c m)) → FilledTo (λ m. flat_of (c m)) (a.degree + 1) l.initial.net
    → Reached l.knots a.degree a.span (parameter_of a.t) flat_of c (flat_at l.net) l.level
