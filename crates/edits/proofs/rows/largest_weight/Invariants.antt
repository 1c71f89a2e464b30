use mathlib.Core.Path.{◌≡◌}
use Prim.Native.Nat.{◌+◌, ◌*◌, ◌≤◌}
use Rattle.doubles.specs.Run.{at}
use Rattle.doubles.specs.Value.{zero+}
use Rattle.runs.specs.Larger.{largest_from}
use Rattle.edits.proofs.rows.largest_weight.Given as goal

abbrev pub invariant-loop-i : goal.invariant-loop-i
invariant-loop-i l = (l.a ≡ largest_from zero+ (λ k. at l.rows (k * 4 + 3)) l.i) × (l.i ≤ l.n)
