-- `edits::control::share_of` meets its contract.
-- Assumes nothing.
use borrow.Author.Rules.{rules}
use Rattle.edits.specs.Control.{share_of}
use Rattle.edits.proofs.control.share_of.Goals as goal

pub returns : goal.returns
unfolding share_of
returns c = search rules
