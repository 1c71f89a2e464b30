-- The number divided by what is left of the power stays the same.
-- Assumes nothing.
use mathlib.Core.Path.{◌≡◌}
use Prim.Native.Nat.{◌-◌, ◌*◌, ◌^◌, ◌≤◌}
use Rattle.decimals.specs.Fixed.{whole}
use Rattle.decimals.specs.Figures.{number, Figures}
use Rattle.decimals.proofs.figures.halve.Given as goal

abbrev pub invariant-loop : goal.invariant-loop
invariant-loop l = (Figures l.run) × (number l.run ≤ number l.initial.run) × (whole l.away (number l.run) (2 ^ (l.k - 32 * l.counter)) ≡ whole l.away (number l.initial.run) (2 ^ l.k))
