-- The line by what the bound answers, stored into cleared bytes.
-- Assumes nothing.
use mathlib.Core.Path.{◌≡◌, sym}
use native.Mathlib.Omega.{arith}
use lib.ListN.{length}
use borrow.Author.Rules.{rules}
use Rattle.listing.proofs.Lines.{front-shown}
use Rattle.drawing.proofs.box_text.Goals as goal

pub returns-then-both_finite : goal.returns-then-both_finite
returns-then-both_finite c = let long : length c.args.out.now ≡ 2304 = search rules in
    let e = c.put_path.ensures in
    rw (c.in-Ok.is, sym c.both_finite.ensures, c.if-both_finite.true)
    (front-shown 2304 _ c.clear_bytes.ensures long e.stored (omega (arith, e.upper_bound)))

pub returns-else-both_finite : goal.returns-else-both_finite
returns-else-both_finite c = let long : length c.args.out.now ≡ 2304 = search rules in
    let e = c.put_unbounded.ensures in
    rw (c.in-Ok.is, sym c.both_finite.ensures, c.if-both_finite.false)
    (front-shown 2304 _ c.clear_bytes.ensures long e.stored (omega (arith, e.upper_bound)))

pub returns-in-Err : goal.returns-in-Err
returns-in-Err c = let long : length c.args.out.now ≡ 2304 = search rules in
    let e = c.put_refusal.ensures in
    rw c.in-Err.is (front-shown 2304 _ c.clear_bytes.ensures long e.stored (omega (arith, e.upper_bound)))
