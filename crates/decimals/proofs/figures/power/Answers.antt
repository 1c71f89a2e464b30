-- A shift is a power.
-- Assumes nothing.
use native.Mathlib.Omega.{arith}
use mathlib.Core.Path.{◌∙◌}
use native.Mathlib.Nat.{one-mul}
use lib.Pow.{shl_exact}
use Rattle.decimals.proofs.figures.power.Goals as goal

pub returns : goal.returns
returns c = shl_exact {a = 1} 1 c.args.k 64 (omega arith) (omega arith) ∙ rw one-mul
