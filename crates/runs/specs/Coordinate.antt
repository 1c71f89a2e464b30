-- Coordinates in a run: where coordinate k of point i stands.
-- Assumes nothing.
use Rattle.std.specs.Prelude.{ℕ, ◌+◌, ◌*◌, List, Float}
use Rattle.doubles.specs.Run.{at}

-- where coordinate k of point i stands
abbrev pub place : ℕ → ℕ → ℕ
place i k = i * 3 + k

abbrev pub coordinate : List Float → ℕ → ℕ → Float
coordinate ps i k = at ps (place i k)
