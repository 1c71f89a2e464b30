-- The number of two bytes.
-- Assumes nothing.
use mathlib.Core.Path.{◌∙◌}
use Rattle.record.proofs.Little.{number-first}
use Rattle.record.proofs.bytes.u16_at.Goals as goal

pub returns-clause-value : goal.returns-clause-value
returns-clause-value c = c.from.ensures
    ∙ (c.from_le_bytes.ensures ∙ number-first 1 c.args.i c.args.s.now _ (rw c.unwrap.ensures at c.first_chunk.ensures.cases))
