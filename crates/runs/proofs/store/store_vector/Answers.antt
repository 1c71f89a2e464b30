-- `runs::store::store_vector` meets its contract.
-- Assumes nothing.
use mathlib.Core.Path.{sym}
use native.Mathlib.Omega.{arith}
use Rattle.runs.specs.Point.{three_of}
use Rattle.runs.proofs.Stores.{sets-out, stored-three}
use Rattle.runs.proofs.store.store_vector.Goals as goal

pub returns-then-at-out : goal.returns-then-at-out
returns-then-at-out c = let a = c.args in
    rw (← (stored-three a.out.now a.at a.v.x a.v.y a.v.z)) cc

pub returns-else-at-out : goal.returns-else-at-out
returns-else-at-out c = let a = c.args in sym (sets-out (three_of a.v) a.out.now a.at (omega arith))
