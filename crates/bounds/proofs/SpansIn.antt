-- The two spans of a surface, where nothing is refused. Assumes nothing.
use mathlib.Core.Path.{◌≡◌}
use mathlib.Core.Bool.{Bool}
use mathlib.Core.List.{List}
use Prim.Native.Nat.{ℕ, suc, ◌+◌, ◌-◌, ◌*◌, ◌≤◌, ◌<◌}
use native.Mathlib.Nat.{mul-le-mul_right, suc-mul}
use native.Mathlib.Omega.{arith}
use lib.Dec.{ltb}
use lib.ListN.{length}
use lib.Ieee.{Float}
use Rattle.knots.specs.Knots.{ValidKnots}
use Rattle.ranges.specs.Range.{span_over, range_refusal}
use Rattle.bounds.specs.Surface.{ranges_refusal, SpansFit}
use Rattle.ranges.proofs.SpanIn.{SpanValid, span-valid}
use Rattle.knots.specs.Refusal as R
use Rattle.knots.specs.declared.refusal.Reason.TheVariants.{DegreeHigh}
use Rattle.knots.specs.Surface.{ValidSurface}
use Rattle.knots.proofs.Refusals.{passed, or_else-none}

pub below-product : (i j nu nv : ℕ) → i < nu → j < nv → i * nv + j < nu * nv
below-product i j nu nv h k =
    let a : suc i * nv ≤ nu * nv = mul-le-mul_right nv h in
    let b : suc i * nv ≡ i * nv + nv = suc-mul i nv in
    omega arith

-- the two ranges, where nothing is refused
pub ranges-valid : (p q : ℕ) (uk vk : List Float) (nu nv : ℕ) (ulo uhi vlo vhi : Float) → ValidKnots p nu uk → ValidKnots q nv vk
    → (ranges_refusal p q nu nv (span_over p nu uk ulo uhi) (span_over q nv vk vlo vhi) ulo uhi vlo vhi).number ≡ 0
    → SpanValid p nu uk ulo uhi (span_over p nu uk ulo uhi) × SpanValid q nv vk vlo vhi (span_over q nv vk vlo vhi)
unfolding ranges_refusal
ranges-valid p q uk vk nu nv ulo uhi vlo vhi Ku Kv k =
    let a = passed (ltb 64 q) (R.refuse DegreeHigh) _ (λ e. omega arith) k in
    let b = or_else-none (range_refusal p nu (span_over p nu uk ulo uhi) ulo uhi) (range_refusal q nv (span_over q nv vk vlo vhi) vlo vhi) a.1 in
    let m = Ku.count in
    let n = Kv.count in
    (span-valid p nu uk ulo uhi (omega arith) b.0, span-valid q nv vk vlo vhi (omega arith) b.1)

-- what `on_spans` asks
pub spans_fit : (p q : ℕ) (uk vk : List Float) (nu nv : ℕ) (ps ws : List Float) (r : Bool) (ulo uhi vlo vhi : Float) (us vs : ℕ) → ValidSurface p q uk vk nu nv ps r ws
    → SpanValid p nu uk ulo uhi us → SpanValid q nv vk vlo vhi vs
    → SpansFit p q us vs (length uk) (length vk) nv
spans_fit p q uk vk nu nv ps ws r ulo uhi vlo vhi us vs Va Su Sv =
    let a = Su.span.first in
    let b = Su.span.last in
    let c = Sv.span.first in
    let d = Sv.span.last in
    let e = Va.u.long in
    let f = Va.v.long in
    let g = Va.short-u in
    let h = Va.short.points in
    let m3 = Va.triples in
    let here : (m : ℕ) → m < p + 1 → (us - p + m) * nv + (vs - q + q) < nu * nv = λ m l. below-product (us - p + m) (vs - q + q) nu nv (omega arith) (omega arith) in
    record {
      p-small = Su.small;
      q-small = Sv.small;
      u-low = a;
      v_low = c;
      u-room = omega arith;
      v-room = omega arith;
      corner = let k = below-product (us - p) (vs - q) nu nv (omega arith) (omega arith) in omega arith;
      fit = record { few = omega arith; small = λ m l. omega (arith, here m l) };
    }
