-- As many digits as the number has.
-- Assumes nothing.
use mathlib.Core.Path.{◌≡◌, ◌∙◌}
use native.Mathlib.Omega.{arith}
use lib.ListN.{length}
use Rattle.decimals.specs.Text.{digits, width, decimal}
use Rattle.decimals.proofs.Digits.{length_digits}
use Rattle.decimals.proofs.text.put_decimal.Goals as goal

pub returns : goal.returns
unfolding decimal
returns c = let a = c.args in
    let w = c.width-w.ensures in
    let long : length (digits 10 (width 19 a.n) a.n) ≡ width 19 a.n = length_digits 10 _ _ in
    record {
      out_after = c.put_digits.ensures ∙ rw w.value;
      value = omega arith;
      upper_bound = omega arith;
    }
