-- `listing::places::put_place` meets its contract.
-- Assumes nothing.
use mathlib.Core.Path.{refl, sym, ◌∙◌}
use mathlib.Core.List.{[]}
use native.Mathlib.Omega.{arith}
use Rattle.decimals.proofs.Storing.{text-stored}
use Rattle.listing.specs.Text.{place_text}
use borrow.Author.Rules.{rules}
use Rattle.listing.proofs.places.put_place.Goals as goal

pub returns-then-says_place : goal.returns-then-says_place
unfolding place_text
returns-then-says_place c = let a = c.put_label.ensures in
    record {
      stored = rw (sym c.says_place.ensures ∙ c.if-says_place.true) (a.roomy (search rules));
      upper_bound = a.within;
    }

pub returns-clause-stored : goal.returns-clause-stored
unfolding place_text
returns-clause-stored c = rw (sym c.says_place.ensures ∙ c.if-says_place.false) (text-stored [] refl (omega arith))

pub returns-clause-upper_bound : goal.returns-clause-upper_bound
unfolding place_text
returns-clause-upper_bound c = omega arith
