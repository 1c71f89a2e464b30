-- The invariant says what is left: the digits above the place, stored into the run as it is, give the run that is asked for.
-- Assumes nothing.
use Prim.Native.Nat.{◌+◌, ◌-◌}
use native.Mathlib.Omega.{arith}
use mathlib.Core.Path.{◌≡◌, sym, ◌∙◌}
use Rattle.decimals.proofs.Digits.{digits-none}
use Rattle.decimals.proofs.Places.{figure-left}
use Rattle.decimals.proofs.figures.put_figures.Goals as goal

pub loop-j-preserved : goal.loop-j-preserved
loop-j-preserved c = let a = c.args in
    let j = c.loop-j.j in
    let e : a.k - (j + 1) ≡ a.k - j - 1 = omega arith in
    let f : a.«from» + (j + 1) ≡ a.«from» + j + 1 = omega arith in
    rw (e, f) (figure-left _ _ _ c.requires.figures _ _ (omega arith) ∙ c.loop-j.invariant)

pub returns : goal.returns
returns c = sym (digits-none _ _ _ _ _ (omega arith)) ∙ c.loop-j.invariant
