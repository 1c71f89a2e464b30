-- A number of 53 bits, in billionths.
-- Assumes nothing.
use native.Mathlib.Omega.{arith}
use mathlib.Core.Path.{◌∙◌}
use Rattle.decimals.proofs.Rounding.{room-first, room-billion, billions}
use Rattle.decimals.proofs.figures.round.Goals as goal

pub raise-requires : goal.raise-requires
raise-requires c = let p = c.requires in
    record {
      figures = p.figures;
      f_bound = omega arith;
      c_bound = omega arith;
      c_bound_2 = room-first _ _ _ p.run_value p.run_len p.q_bound;
    }

pub raise-requires-2 : goal.raise-requires-2
raise-requires-2 c = let p = c.requires in
    let r = c.raise.ensures in
    record {
      figures = r.figures_2;
      f_bound = omega arith;
      c_bound = omega arith;
      c_bound_2 = room-billion _ _ _ _ p.run_value r.run_after (c.raise.auto.run ∙ p.run_len) p.q_bound;
    }

pub returns : goal.returns
returns c = let s = c.scale.ensures in
    record {
      figures_2 = s.figures_2;
      run_after = s.run_after
          ∙ rw
          (billions
          _ _ _ _ _ c.requires.run_value
          c.raise.ensures.run_after c.raise-2.ensures.run_after);
      run_bound = s.run_bound_2;
    }
