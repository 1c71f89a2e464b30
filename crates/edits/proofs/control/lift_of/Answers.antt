-- `edits::control::lift_of` meets its contract.
-- Assumes nothing.
use borrow.Author.Rules.{rules}
use Rattle.edits.specs.Control.{lift_of}
use Rattle.edits.proofs.control.lift_of.Goals as goal

pub returns : goal.returns
unfolding lift_of
returns c = search rules
