-- Down or up to units of 1: every double has room.
-- Assumes nothing.
use native.Mathlib.Omega.{arith}
use mathlib.Core.Path.{◌∙◌}
use lib.Pow.{pow_pos}
use Rattle.decimals.proofs.Rounding.{scaled-down, scaled-up, room-down, small-up, small-down, room-up, whole_le}
use Rattle.decimals.proofs.figures.scale.Goals as goal

pub halve-requires-clause-figures : goal.halve-requires-clause-figures
halve-requires-clause-figures c = c.requires.figures

pub halve-requires-clause-run_bound : goal.halve-requires-clause-run_bound
halve-requires-clause-run_bound c = room-down _ _ c.requires.run_len c.requires.run_bound

pub returns-then-j-lt1074 : goal.returns-then-j-lt1074
returns-then-j-lt1074 c = let h = c.halve.ensures in
    record {
      figures_2 = h.figures_2;
      run_after = h.run_after ∙ scaled-down 1074 _ _ _ (omega arith);
      run_bound_2 = rw h.run_after (small-down _ _ (whole_le _ _ _ (pow_pos _)) c.requires.run_bound);
    }

pub double-requires-clause-figures : goal.double-requires-clause-figures
double-requires-clause-figures c = c.requires.figures

pub double-requires-clause-k_bound : goal.double-requires-clause-k_bound
double-requires-clause-k_bound c = room-up _ _ c.requires.run_len (small-up _ _ c.requires.run_bound (omega arith))

pub returns : goal.returns
returns c = let d = c.double.ensures in
    record {
      figures_2 = d.figures_2;
      run_after = d.run_after ∙ scaled-up 1074 _ _ _ (omega arith);
      run_bound_2 = rw d.run_after (small-up _ _ c.requires.run_bound (omega arith));
    }
