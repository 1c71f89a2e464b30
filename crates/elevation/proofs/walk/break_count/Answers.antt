-- `elevation::walk::break_count` meets its contract.
-- Assumes nothing.
use native.Mathlib.Omega.{arith}
use mathlib.Core.Path.{ap}
use mathlib.Core.Logic.{inl}
use mathlib.Core.List.{List}
use lib.ListN.{length}
use lib.Ieee.{Float}
use Rattle.std.proofs.lemmas.Iterator.Consumers.{YieldsList-from_first, count_from_yields_List}
use Rattle.elevation.specs.Breaks.{breaks_of}
use Rattle.elevation.specs.Passes.{breaks_left}
use Rattle.elevation.proofs.BreakWalks.{breaks-few}
use Rattle.elevation.proofs.walk.break_count.Goals as goal

pub count-requires-clause-fits : goal.count-requires-clause-fits
count-requires-clause-fits c = let w = breaks-few c.args.p c.args.n c.args.knots.now c.requires.0 in
    let e = ap (λ (x : List Float). length x) c.new.ensures in
    let f = c.ranges.n.fits in
    inl (omega arith)

pub returns : goal.returns
returns c = let a = c.args in
    count_from_yields_List _ _ c.count.ensures.ran (YieldsList-from_first (λ (x : Float). x) breaks_left (breaks_of a.p a.n a.knots.now) c.new.ensures)
