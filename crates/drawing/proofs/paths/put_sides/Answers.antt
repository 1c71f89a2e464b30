-- Three pieces, one behind the other.
-- Assumes nothing.
use mathlib.Core.Bool.{true, false}
use native.Mathlib.Omega.{arith}
use borrow.Author.Rules.{rules}
use Rattle.decimals.proofs.Storing.{both_stored, parts-stored}
use Rattle.decimals.specs.Ascii.{ascii}
use Rattle.drawing.specs.Drawing.{number, sides_text}
use Rattle.drawing.proofs.paths.put_sides.Goals as goal

pub returns : goal.returns
unfolding sides_text number ascii
returns c = let v = c.args in
    let a = c.put_corners-a.ensures in
    let b = c.put_number-b.ensures in
    let d = c.put_text.ensures in
    let four = parts-stored (number " d=\"M" false v.left) (number " " false v.bottom) (number "H" true v.right) (number "V" true v.top) in
    record {
      stored = four a.stored (both_stored (b.roomy (search rules)) (d.roomy (search rules)));
      upper_bound = omega arith;
    }
