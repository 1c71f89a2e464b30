-- `edits::counts::all_equal` meets its contract.
-- Assumes nothing.
use borrow.Author.Rules.{rules}
use borrow.Author.Tests.{tests}
use mathlib.Core.Path.{◌∙◌}
use lib.Ieee.{Float, eq}
use Rattle.std.proofs.lemmas.Iterator.{YieldsList-from_slice}
use Rattle.std.proofs.lemmas.Iterator.Search.{all_from_yields_List}
use Rattle.edits.specs.Counts.{all_equal}
use Rattle.edits.proofs.CountLoop.{all-within}
use Rattle.edits.proofs.counts.all_equal.Goals as goal

pub returns : goal.returns
unfolding all_equal
returns c = let a = c.args in
    all_from_yields_List (λ (x : Float). eq x a.x) _ _ _ c.all.ensures.ran (YieldsList-from_slice a.xs.now cc) (λ x r q k. search (rules, tests))
    ∙ all-within (λ (x : Float). eq x a.x) a.xs.now
