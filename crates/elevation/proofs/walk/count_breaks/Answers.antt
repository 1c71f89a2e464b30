-- `elevation::walk::count_breaks` meets its contract.
-- Assumes nothing.
use borrow.Author.Rules.{rules}
use borrow.Author.Tests.{tests}
use native.Mathlib.Omega.{arith}
use mathlib.Core.Path.{◌∙◌, ap}
use mathlib.Core.Logic.{inl}
use mathlib.Core.List.{List}
use lib.ListN.{length}
use lib.Ieee.{Float}
use Rattle.std.proofs.lemmas.Iterator.Consumers.{YieldsList-from_first, YieldsList-from_filter, count_from_yields_List}
use Rattle.elevation.specs.Breaks.{is_full, breaks_of}
use Rattle.elevation.specs.Passes.{breaks_left}
use Rattle.elevation.proofs.BreakWalks.{breaks-few, full-kept}
use Rattle.elevation.proofs.walk.count_breaks.Goals as goal

pub returns : goal.returns
returns c = let a = c.args in
    let bs = breaks_of a.p a.n a.knots.now in
    record {
      breaks = c.break_count-breaks.ensures;
      full = count_from_yields_List _ _ c.count-full.ensures.ran (YieldsList-from_filter _ (is_full a.p a.knots.now) (YieldsList-from_first (λ (x : Float). x) breaks_left bs (ap breaks_left c.filter.ensures.source ∙ c.new.ensures)) c.filter.ensures.closure (λ x r q k. search (rules, tests)))
          ∙ full-kept a.p a.knots.now bs;
    }
