-- `evaluate::controls::largest_in` meets its contract.
-- Assumes nothing.
use Prim.Native.Nat.{◌+◌, ◌-◌, ◌<◌}
use mathlib.Core.Path.{◌≡◌, ◌∙◌, ap}
use native.Mathlib.Omega.{arith}
use lib.Ieee.{Float, nan}
use lib.ListN.{drop, length-take, length-drop}
use Rattle.std.proofs.lemmas.List.{get_or-take, get_or-drop}
use Rattle.runs.specs.Larger.{larger}
use Rattle.doubles.specs.Run.{at}
use Rattle.runs.proofs.Largest.{largest-none, largest-more}
use Rattle.evaluate.proofs.controls.largest_in.Goals as goal

pub loop-w-init : goal.loop-w-init
loop-w-init c = largest-none _ _

pub loop-w-preserved : goal.loop-w-preserved
loop-w-preserved c = let l = c.loop-w in
    let s = c.args in
    let n = s.first + s.n - s.first in
    let h : l.w-index < n = omega (arith, length-take {A = Float}) in
    let read = get_or-take n (drop s.first s.weights.now) l.w-index nan h ∙ get_or-drop s.first s.weights.now l.w-index nan in
    largest-more s.m (λ j. at s.weights.now (s.first + j)) l.w-index l.a _ l.invariant (c.larger_of-a.ensures ∙ ap (larger l.a) read)

pub returns : goal.returns
returns c = let e : c.loop-w.w-index ≡ c.args.n = omega (arith, length-take {A = Float}, length-drop {A = Float}) in cc
