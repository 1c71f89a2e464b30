-- The number of sixteen digits: after i of them it is below 2 to the 4 i, so that no sum wraps.
-- Assumes nothing.
use Prim.Native.Nat.{◌*◌, ◌^◌, ◌<◌}
use mathlib.Core.Path.{◌≡◌}
use Rattle.replaying.specs.Digits.{hex}
use Rattle.replaying.proofs.words.value.Given as goal

abbrev pub invariant-loop-i : goal.invariant-loop-i
invariant-loop-i l = (l.v ≡ hex l.i l.t) × (l.v < 2 ^ (4 * l.i))
