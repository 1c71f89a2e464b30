-- De Boor's step by ends is the step on the intervals of a net's points. Assumes nothing.
use mathlib.Core.Path.{◌≡◌, refl, ap₂, ◌∙◌}
use mathlib.Core.Bool.{Bool, true, false, ◌&&◌, cond}
use lib.Dec.{T}
use lib.Ieee.{le}
use lib.Ieee.Bits.{is_true}
use lib.Ieee.Fits.{and_l, and_r}
use Rattle.doubles.specs.Value.{one+}
use Rattle.doubles.proofs.TestFacts.{T_of, neg-neg}
use Rattle.doubles.proofs.Order.{le_is}
use Rattle.interval.specs.Ops.{point_of, new_of, add_of, sub_of, mul_of}
use Rattle.interval.specs.declared.Interval.{Interval}
use Rattle.jets.specs.Jet.{constant_of, jet_sub, jet_add, jet_mul}
use Rattle.jets.specs.Net.{mix_jet, mix_of}
use Rattle.jets.specs.declared.jet.Jet.{Jet}
use Rattle.jets.specs.declared.net.Control.{Control}
use Rattle.ends.specs.Ends.{interval_by, ends_of, sum_of, factor_of, is_factor}
use Rattle.ends.specs.Flat.{flat_of, dot_of, dot_by, shared, mixed_by, flat_mix}
use Rattle.ends.specs.Good.{Good, GoodPoint}
use Rattle.ends.proofs.Good.{mul-good, sum-good}
use Rattle.ends.proofs.Same.{lo-number, hi-number, sum_same, times-same}

-- ---- there and back
pub back : (i : Interval) → Good i → interval_by (ends_of i) ≡ i
unfolding new_of
back i G = rw (neg-neg i.lo, is_true (le i.lo i.hi) fits)
  where
    fits : T (le i.lo i.hi)
    fits = rw (le_is i.lo i.hi (lo-number i G) (hi-number i G)) G.ordered

module _ (beta a alpha b : Interval) (A : Good a) (B : Good b) where
  abbrev dot : Interval
  dot = add_of (mul_of beta a) (mul_of alpha b)

  pub dot_good : Good dot
  dot_good = sum-good (mul_of beta a) (mul_of alpha b) (mul-good beta a) (mul-good alpha b)

  dot-by : dot_by beta (ends_of a) alpha (ends_of b) ≡ ends_of dot
  unfolding dot_by
  dot-by = rw (back a A, back b B)

  dot-same : T (is_factor (factor_of beta) && is_factor (factor_of alpha)) → dot_of (factor_of beta) (ends_of a) (factor_of alpha) (ends_of b) ≡ ends_of dot
  unfolding dot_of
  dot-same t =
      ap₂ sum_of (times-same beta a A (and_l (is_factor (factor_of beta)) (is_factor (factor_of alpha)) t)) (times-same alpha b B (and_r (is_factor (factor_of beta)) (is_factor (factor_of alpha)) t))
      ∙ sum_same (mul_of beta a) (mul_of alpha b) (mul-good beta a) (mul-good alpha b)

-- ---- the four intervals of a point of the net
module _ (α : Jet) (a b : Control) (A : GoodPoint a) (B : GoodPoint b) where
  abbrev beta : Interval
  beta = sub_of (point_of one+) α.v

  pub mix-good : GoodPoint (mix_of α a b)
  unfolding mix_of mix_jet jet_add jet_mul jet_sub constant_of
  mix-good = record {
    x = dot_good beta a.x.v α.v b.x.v A.x B.x;
    y = dot_good beta a.y.v α.v b.y.v A.y B.y;
    z = dot_good beta a.z.v α.v b.z.v A.z B.z;
    w = dot_good beta a.w.v α.v b.w.v A.w B.w;
  }

  pub mix-same : flat_mix α.v (flat_of a) (flat_of b) ≡ flat_of (mix_of α a b)
  unfolding flat_mix mix_of mix_jet jet_add jet_mul jet_sub constant_of
  mix-same = go (is_factor (factor_of beta) && is_factor (factor_of α.v)) refl
    where
      go : (c : Bool) → (is_factor (factor_of beta) && is_factor (factor_of α.v)) ≡ c
          → cond c (shared (factor_of beta) (flat_of a) (factor_of α.v) (flat_of b)) (mixed_by beta (flat_of a) α.v (flat_of b)) ≡ flat_of (mix_of α a b)
      go true e =
          let t = T_of _ e in
          rw (
            dot-same beta a.x.v α.v b.x.v A.x B.x t,
            dot-same beta a.y.v α.v b.y.v A.y B.y t,
            dot-same beta a.z.v α.v b.z.v A.z B.z t,
            dot-same beta a.w.v α.v b.w.v A.w B.w t,
          )
      go false e =
          rw (
            dot-by beta a.x.v α.v b.x.v A.x B.x,
            dot-by beta a.y.v α.v b.y.v A.y B.y,
            dot-by beta a.z.v α.v b.z.v A.z B.z,
            dot-by beta a.w.v α.v b.w.v A.w B.w,
          )
