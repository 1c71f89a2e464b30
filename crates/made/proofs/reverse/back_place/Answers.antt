-- `made::reverse::back_place` meets its contract.
-- Assumes nothing.
use native.Mathlib.Omega.{arith}
use Rattle.made.specs.Reverse.{back_place}
use Rattle.made.proofs.reverse.back_place.Goals as goal

pub overflow_sub-point : goal.overflow_sub-point
overflow_sub-point c = let h = c.requires.n_value c.if-points.true in let g = c.requires.i_lt_n in omega arith

pub overflow_sub-point-then-points : goal.overflow_sub-point-then-points
overflow_sub-point-then-points c = let h = c.requires.n_value c.if-points.true in let g = c.requires.i_lt_n in omega arith

pub returns-then-points : goal.returns-then-points
unfolding back_place
returns-then-points c = let h = c.requires.n_value c.if-points.true in let g = c.requires.i_lt_n in (simp c.if-points.true, omega arith)

pub returns : goal.returns
unfolding back_place
returns c = let g = c.requires.i_lt_n in (simp c.if-points.false, omega arith)
