-- `bounds::store::store_interval` meets its contract.
-- Assumes nothing.
use Prim.Native.Nat.{◌+◌}
use mathlib.Core.Path.{sym, ◌∙◌, ap, ap₂}
use mathlib.Core.List.{List}
use native.Mathlib.Omega.{arith}
use lib.ListN.{set}
use lib.Ieee.{Float}
use Rattle.bounds.specs.Numbers.{two_of}
use Rattle.runs.proofs.Stores.{sets-out, stored-two}
use Rattle.bounds.proofs.store.store_interval.Goals as goal

pub returns-then-at-out : goal.returns-then-at-out
returns-then-at-out c = let a = c.args in
    c.put_number-then-at-out.ensures
    ∙ (ap₂
    (λ (l : List Float) (y : Float). set l (a.at + 1) y)
    (c.put_number.ensures
    ∙ ap (set a.out.now a.at) c.lo.ensures)
    c.hi.ensures
    ∙ stored-two a.out.now a.at a.i.lo a.i.hi)

pub returns-else-at-out : goal.returns-else-at-out
returns-else-at-out c = let a = c.args in sym (sets-out (two_of a.i) a.out.now a.at (omega arith))
