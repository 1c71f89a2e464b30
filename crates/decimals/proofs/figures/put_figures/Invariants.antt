-- The invariant says what is left: the digits above the place, stored into the run as it is, give the run that is asked for.
-- Assumes nothing.
use Prim.Native.Nat.{◌^◌, ◌+◌, ◌-◌, ◌/◌}
use mathlib.Core.Path.{◌≡◌}
use lib.Seq.{sets}
use Rattle.decimals.specs.Text.{digits}
use Rattle.decimals.specs.Figures.{number}
use Rattle.decimals.proofs.figures.put_figures.Given as goal

abbrev pub invariant-loop-j : goal.invariant-loop-j
invariant-loop-j l = sets l.out l.at (digits 10 (l.k - l.j) (number l.run / 10 ^ (l.«from» + l.j))) ≡ sets l.initial.out l.at (digits 10 l.k (number l.run / 10 ^ l.«from»))
