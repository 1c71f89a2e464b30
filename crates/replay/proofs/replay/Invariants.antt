-- No more cases differ than were passed.
-- Assumes nothing.
use Prim.Native.Nat.{◌≤◌}
use Rattle.replay.proofs.replay.Given as goal

abbrev pub invariant-loop : goal.invariant-loop
invariant-loop l = l.differ ≤ l.counter
