-- `bounds::store::store_triple` meets its contract.
-- Assumes nothing.
use Prim.Native.Nat.{◌+◌}
use mathlib.Core.Path.{refl, sym, ◌∙◌, ap}
use mathlib.Core.List.{List}
use native.Mathlib.Omega.{arith}
use lib.Ieee.{Float}
use Rattle.bounds.specs.Numbers.{two_of, six_of, stored_two}
use Rattle.runs.proofs.Stores.{sets-out, sets-three}
use Rattle.bounds.proofs.store.store_triple.Goals as goal

pub returns-then-at-out : goal.returns-then-at-out
returns-then-at-out c = let a = c.args in
    c.store_interval-then-at-out-2.ensures
    ∙ (ap
    (λ (l : List Float). stored_two l (a.at + 4) a.t.z)
    (c.store_interval-then-at-out.ensures
    ∙ ap (λ (l : List Float). stored_two l (a.at + 2) a.t.y) c.store_interval.ensures)
    ∙ sets-three (two_of a.t.x) (two_of a.t.y) (two_of a.t.z) a.out.now a.at (a.at + 2) (a.at + 4) refl (omega arith))

pub returns-else-at-out : goal.returns-else-at-out
returns-else-at-out c = let a = c.args in sym (sets-out (six_of a.t) a.out.now a.at (omega arith))
