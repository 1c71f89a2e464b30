-- What is added before the cut makes it round up.
-- Assumes nothing.
use native.Mathlib.Omega.{arith}
use mathlib.Core.Path.{◌∙◌}
use native.Mathlib.Nat.{mul-one}
use Rattle.decimals.proofs.Rounding.{extra-whole, extra-small}
use Rattle.decimals.proofs.figures.divide.Goals as goal

pub raise-requires : goal.raise-requires
raise-requires c = let p = c.requires in
    let e = c.extra.ensures in
    let small = extra-small c.args.away c.args.g p.g_nonzero p.g_bound in
    record {
      figures = p.figures;
      f_bound = omega arith;
      c_bound = omega arith;
      c_bound_2 = rw mul-one (omega arith);
    }

pub lower-requires : goal.lower-requires
lower-requires c = let q = c.requires in
    record {
      figures = c.raise.ensures.figures_2;
      g_nonzero = q.g_nonzero;
      g_bound = q.g_bound;
    }

pub returns-clause-figures_2 : goal.returns-clause-figures_2
returns-clause-figures_2 c = c.lower.ensures.figures_2

pub returns-clause-run_after : goal.returns-clause-run_after
returns-clause-run_after c = c.lower.ensures.run_after
    ∙ rw (c.raise.ensures.run_after, c.extra.ensures) (extra-whole _ _ _)
