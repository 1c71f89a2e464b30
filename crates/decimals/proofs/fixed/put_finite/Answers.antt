-- The figures of a double, as text.
-- Assumes nothing.
use mathlib.Core.Path.{◌∙◌, refl}
use Rattle.decimals.proofs.Places.{zeros-figures, number-zeros}
use Rattle.decimals.proofs.fixed.put_finite.Goals as goal

pub round-requires : goal.round-requires
round-requires c = let p = c.requires in
    record {
      figures = zeros-figures 330;
      run_len = refl;
      run_value = number-zeros 330;
      q_bound = p.q_bound;
      j_bound = p.j_bound;
    }

pub returns : goal.returns
returns c = let p = c.put_billionths.ensures in
    let e = c.round.ensures.run_after in
    record {
      out_after = p.out_after ∙ rw e;
      value = p.value ∙ rw e;
      upper_bound = p.upper_bound;
    }
