use Prim.Native.Nat.{ℕ, ◌≤◌}
use Rattle.jets.specs.declared.net.Control.{Control}
use Rattle.jets.specs.Jet.{parameter_of}
use Rattle.jets.proofs.Levels.{Walked}
use Rattle.ends.specs.Flat.{flat_of}
use Rattle.ends.specs.Good.{GoodPoint}
use Rattle.bounds.specs.Flat.{flat_at}
use Rattle.bounds.specs.Levels.{Reached}
use Rattle.bounds.proofs.flat.flat_level.Given as goal

abbrev pub invariant-loop-j : goal.invariant-loop-j
invariant-loop-j l = let a = l.along in
    (c : ℕ → Control) → ((m : ℕ) → m ≤ a.degree → GoodPoint (c m)) → Reached l.knots a.degree a.span (parameter_of a.t) flat_of c (flat_at l.initial.net) l.level
    → Walked l.knots a.degree a.span (parameter_of a.t) c flat_of (flat_at l.net) l.level l.j
