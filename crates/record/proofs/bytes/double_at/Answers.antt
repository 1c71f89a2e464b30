-- The double of eight bytes.
-- Assumes nothing.
use mathlib.Core.Path.{◌∙◌, ap}
use Prim.Native.Nat.{ℕ}
use lib.Ieee.{binary64, of_bits}
use Rattle.record.proofs.Little.{number-first}
use Rattle.record.proofs.bytes.double_at.Goals as goal

pub returns : goal.returns
returns c = c.double_of.ensures
    ∙ ap (λ (n : ℕ). of_bits binary64 n)
    (c.from_le_bytes.ensures ∙ number-first 7 c.args.i c.args.s.now _ (rw c.unwrap.ensures at c.first_chunk.ensures.cases))
