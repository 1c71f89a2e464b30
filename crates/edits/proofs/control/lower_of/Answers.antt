-- `edits::control::lower_of` meets its contract.
-- Assumes nothing.
use borrow.Author.Rules.{rules}
use Rattle.edits.specs.Control.{lower_of}
use Rattle.edits.proofs.control.lower_of.Goals as goal

pub returns : goal.returns
unfolding lower_of
returns c = search rules
