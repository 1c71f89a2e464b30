-- The digits, the last one first. The invariant says what is left: the digits of the rest, stored into the run as it is, give the run that is asked for.
-- Assumes nothing.
use mathlib.Core.Path.{◌≡◌}
use lib.Seq.{sets}
use Rattle.decimals.specs.Text.{digits}
use Rattle.decimals.proofs.text.put_digits.Given as goal

abbrev pub invariant-loop-i : goal.invariant-loop-i
invariant-loop-i l = sets l.out l.at (digits l.base l.i l.rest) ≡ sets l.initial.out l.at (digits l.base l.k l.n)
