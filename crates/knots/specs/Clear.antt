-- A run of +0.0: what a refusal leaves in each lent run.
-- Assumes nothing.
use Rattle.std.specs.Prelude.{ℕ, List, replicate, Float}
use Rattle.doubles.specs.Value.{zero+}

abbrev pub zeros : ℕ → List Float
zeros n = replicate n zero+
