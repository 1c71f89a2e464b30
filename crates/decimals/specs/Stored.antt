-- What a step promises that writes a text into a run.
-- Assumes nothing.
use Rattle.std.specs.Prelude.{ℕ, ◌+◌, ◌≤◌, ◌<◌, ◌≡◌, List, length}
use Rattle.std.proofs.lemmas.List.Edits.{sets}

-- a text is stored from the place at on, and r is the place behind it
pub record Stored (before : List ℕ) (at : ℕ) (text after : List ℕ) (r : ℕ) : Type 0 where
  pub run : after ≡ sets before at text
  pub end : r ≡ at + length text

-- the same, where the run has room for k bytes from the place at on; else nothing is stored
pub record Put (k : ℕ) (before : List ℕ) (at : ℕ) (text after : List ℕ) (r : ℕ) : Type 0 where
  pub roomy : at + k ≤ length before → Stored before at text after r
  pub short : length before < at + k → (after ≡ before) × (r ≡ at)
  pub within : r ≤ at + k
