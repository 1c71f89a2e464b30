-- A copy is a store.
-- Assumes nothing.
use mathlib.Core.Path.{refl}
use native.Mathlib.Omega.{arith}
use Rattle.knots.proofs.Fill.{copied}
use Rattle.decimals.proofs.Storing.{text-stored}
use Rattle.decimals.proofs.text.store.Goals as goal

pub returns-clause-stored : goal.returns-clause-stored
returns-clause-stored c = text-stored _ (copied _ _ _ _ _ c.copy_from_slice.ensures.after (omega arith) c.requires) refl
