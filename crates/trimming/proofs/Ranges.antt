-- The range of a cut: what no refusal says of it.
-- Assumes nothing.
use Prim.Native.Nat.{ℕ, ◌+◌, ◌*◌, ◌≤◌}
use mathlib.Core.Bool.{Bool, true, false, not}
use mathlib.Core.Path.{◌≡◌}
use mathlib.Core.List.{List}
use native.Mathlib.Omega.{arith}
use borrow.Author.Tests.{not-true, not-false}
use lib.ListN.{length}
use lib.Ieee.{Float, lt, le}
use lib.Ieee.Scale.{finite}
use Rattle.doubles.specs.Run.{at}
use Rattle.doubles.proofs.TestedOrder.{le-fails}
use Rattle.knots.specs.Refusal.{refuse}
use Rattle.knots.specs.declared.refusal.Reason.TheVariants.{TrimBad}
use Rattle.knots.specs.Knots.{ValidKnots}
use Rattle.knots.specs.Curve.{count_of, ValidCurve}
use Rattle.knots.proofs.Below.{and_left, and_right}
use Rattle.knots.proofs.Refusals.{or_else-none, passed}
use Rattle.edits.specs.Counts.{multiplicity_of, missing_of, below_of}
use Rattle.edits.specs.Start.{clamped_ends, edit_start, out_room, scratch_room}
use Rattle.insertion.proofs.KnotCounts.{below-mono, below-room}
use Rattle.edits.proofs.Starting.{OutOpen, out-open, scratch-open, edit-open}
use Rattle.trimming.specs.Trim.{in_range, kept_of, range_refusal, trim_start}

-- a range of a valid run
pub record Range (a b lo hi : Float) : Type 0 where
  pub low : finite lo ≡ true
  pub high : finite hi ≡ true
  pub less : lt lo hi ≡ true
  pub from : lt lo a ≡ false
  pub to : lt b hi ≡ false

pub range-is : (a b lo hi : Float) → in_range a b lo hi ≡ true → Range a b lo hi
unfolding in_range
range-is a b lo hi h =
    let l = and_left (finite lo) _ h in
    let x = and_right (finite lo) _ h in
    let r = and_left (finite hi) _ x in
    let y = and_right (finite hi) _ x in
    let z = and_right (not (le hi lo)) _ y in
    record {
      low = l;
      high = r;
      less = le-fails hi lo r l (not-true _ (and_left (not (le hi lo)) _ y));
      from = not-true _ (and_left (not (lt lo a)) (not (lt b hi)) z);
      to = not-true _ (and_right (not (lt lo a)) (not (lt b hi)) z);
    }

pub range-order : (p n : ℕ) (ks : List Float) → ValidKnots p n ks → (lo hi : Float) → in_range (at ks p) (at ks n) lo hi ≡ true → below_of ks lo ≤ below_of ks hi
range-order p n ks v lo hi h = let r = range-is (at ks p) (at ks n) lo hi h in below-mono p n ks v lo hi r.low r.less

pub below-long : (ks : List Float) (t : Float) → below_of ks t ≤ length ks
below-long ks t = let b = below-room ks t in omega arith

-- what is taken lies in the curve that is formed
pub kept-fits : (p n : ℕ) (ks : List Float) → ValidKnots p n ks → (lo hi : Float) → below_of ks lo ≤ below_of ks hi → multiplicity_of ks hi ≤ p + 1
    → below_of ks lo + kept_of p ks lo hi ≤ n + (missing_of p ks lo + missing_of p ks hi)
unfolding kept_of
kept-fits p n ks v lo hi b m = let l = v.long in omega (arith, below-room ks hi)

-- ---- no refusal at the start
pub record Open (p : ℕ) (ks ps : List Float) (g : Bool) (ws : List Float) (lo hi : Float) (a b c d : ℕ) : Type 0 where
  pub curve : ValidCurve p ks ps g ws
  pub clamped : clamped_ends p (count_of ps) ks ≡ true
  pub range : in_range (at ks p) (at ks (count_of ps)) lo hi ≡ true
  pub out : OutOpen p (kept_of p ks lo hi) g a b c
  pub scratch : 10 * (count_of ps + (missing_of p ks lo + missing_of p ks hi)) + 2 * (p + 1) ≤ d

module _ (p : ℕ) (ks ps : List Float) (g : Bool) (ws : List Float) (lo hi : Float) (a b c d : ℕ) where
  pub start-open : (trim_start p ks ps g ws lo hi a b c d).number ≡ 0 → Open p ks ps g ws lo hi a b c d
  unfolding trim_start range_refusal
  start-open h =
      let n = count_of ps in
      let x = or_else-none (edit_start p ks ps g ws) _ h in
      let y = passed (not (in_range (at ks p) (at ks n) lo hi)) (refuse TrimBad) _ (λ e. omega arith) x.1 in
      let z = or_else-none (out_room p (kept_of p ks lo hi) g a b c) (scratch_room p (n + (missing_of p ks lo + missing_of p ks hi)) d) y.1 in
      let o = edit-open p ks ps g ws x.0 in
      record {
        curve = o.0;
        clamped = o.1;
        range = not-false _ y.0;
        out = out-open p (kept_of p ks lo hi) g a b c z.0;
        scratch = scratch-open p (n + (missing_of p ks lo + missing_of p ks hi)) d z.1;
      }
