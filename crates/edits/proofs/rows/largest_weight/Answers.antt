use Prim.Native.Nat.{◌+◌, ◌*◌}
use native.Mathlib.Omega.{arith}
use Rattle.doubles.specs.Run.{at}
use Rattle.doubles.specs.Value.{zero+}
use Rattle.runs.proofs.Largest.{largest-none, largest-more}
use lib.Ieee.{of_bits}
use Rattle.edits.proofs.rows.largest_weight.Goals as goal

pub loop-i-init : goal.loop-i-init
unfolding of_bits
loop-i-init c = (largest-none _ _, omega arith)

pub loop-i-preserved : goal.loop-i-preserved
loop-i-preserved c = let l = c.loop-i in
    let t = c.loop-i-test.true in
    (largest-more zero+ (λ k. at c.args.rows.now (k * 4 + 3)) l.i _ _ l.invariant.0 c.larger_of-a.ensures, omega arith)
