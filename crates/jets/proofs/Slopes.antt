-- Four symmetric derivatives give a symmetric slope, which its high end tells. Assumes nothing.
use mathlib.Core.Path.{◌≡◌, ap₂}
use mathlib.Core.Bool.{true, ◌&&◌}
use Rattle.interval.specs.declared.Interval.{Interval}
use Rattle.interval.specs.Ops.{add_of, mul_of, opposites_of, is_symmetric}
use Rattle.interval.proofs.Symmetric.{symmetric-left, symmetric-right}
use Rattle.knots.proofs.Below.{and_left, and_right}
use Rattle.jets.specs.Net.{slope_of}

pub slope-is : (b bd a ad c cd d dd : Interval) → (is_symmetric bd && (is_symmetric ad && (is_symmetric cd && is_symmetric dd))) ≡ true
    → add_of (add_of (mul_of (opposites_of bd.hi) a) (mul_of (opposites_of ad.hi) b)) (add_of (mul_of (opposites_of cd.hi) d) (mul_of (opposites_of dd.hi) c)) ≡ slope_of b bd a ad c cd d dd
unfolding slope_of
slope-is b bd a ad c cd d dd e =
    let f = and_right (is_symmetric bd) _ e in
    let g = and_right (is_symmetric ad) _ f in
    ap₂ add_of
    (ap₂ add_of (symmetric-left bd a (and_left (is_symmetric bd) _ e)) (symmetric-right ad b (and_left (is_symmetric ad) _ f)))
    (ap₂ add_of (symmetric-left cd d (and_left (is_symmetric cd) _ g)) (symmetric-right dd c (and_right (is_symmetric cd) _ g)))
