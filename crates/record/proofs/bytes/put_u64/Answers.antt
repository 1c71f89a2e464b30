-- The lowest bytes, copied.
-- Assumes nothing.
use native.Mathlib.Omega.{arith}
use Rattle.record.proofs.Stores.{little-copied}
use Rattle.record.proofs.bytes.put_u64.Goals as goal

pub returns : goal.returns
returns c = little-copied 8 _ _ _ _ _ (rw c.to_le_bytes.ensures at c.copy_from_slice.ensures.after) (omega arith) (omega arith)
