-- What no refusal says before anything is formed.
-- Assumes nothing.
use Prim.Native.Nat.{ℕ, ◌+◌, ◌*◌, ◌/◌, ◌≤◌, ◌<◌}
use mathlib.Core.Bool.{Bool, true, not, ◌&&◌}
use mathlib.Core.Path.{◌≡◌}
use mathlib.Core.List.{List}
use native.Mathlib.Omega.{arith}
use borrow.Author.Tests.{ltb-false}
use lib.ListN.{length}
use lib.Dec.{eqb, ltb}
use lib.Ieee.{Float}
use Rattle.knots.specs.Refusal.{refuse}
use Rattle.knots.specs.declared.refusal.Reason.TheVariants.{DegreeLowered, ElevationHigh}
use Rattle.knots.specs.Curve.{count_of, ValidCurve}
use Rattle.knots.proofs.Refusals.{passed, or_else-none}
use Rattle.edits.specs.Start.{clamped_ends, edit_start, out_room, scratch_room}
use Rattle.edits.proofs.Starting.{edit-open, OutOpen, out-open, scratch-open}
use Rattle.elevation.specs.Breaks.{breaks_of}
use Rattle.elevation.specs.Elevate.{extracted_count}
use Rattle.elevation.specs.Whole.{elevated_count, raise_start, elevate_start}
use Rattle.elevation.proofs.Limits.{not-high}

-- a curve that may be edited: its counts are small
pub edit-small : (p : ℕ) (ks ps : List Float) (g : Bool) (ws : List Float) → (edit_start p ks ps g ws).number ≡ 0
    → (p < length ps / 3) × (length ps / 3 ≤ length ks) × (length ps / 3 ≤ 1048576)
edit-small p ks ps g ws z =
    let v = (edit-open p ks ps g ws z).0 in
    let c = v.knots.count in
    let l = v.knots.long in
    let s = v.short.points in
    (c, omega arith, omega arith)

module _ (p : ℕ) (ks ps : List Float) (g : Bool) (ws : List Float) (e a b c d : ℕ) where
  pub record Opened : Type 0 where
    pub curve : ValidCurve p ks ps g ws
    pub clamped : clamped_ends p (count_of ps) ks ≡ true
    pub low : p ≤ e
    pub high : (e ≡ p → ⊥) → e ≤ 64
    pub out : OutOpen e (elevated_count p e (count_of ps) ks) g a b c
    pub scratch : 10 * extracted_count p (breaks_of p (count_of ps) ks) + 2 * (p + 1) ≤ d

  pub opened : (elevate_start p ks ps g ws e a b c d).number ≡ 0 → Opened
  unfolding elevate_start raise_start
  opened h =
      let n = count_of ps in
      let x = or_else-none (edit_start p ks ps g ws) _ h in
      let q = edit-open p ks ps g ws x.0 in
      let y = passed (ltb e p) (refuse DegreeLowered) _ (λ z. omega arith) x.1 in
      let u = passed (not (eqb e p) && ltb 64 e) (refuse ElevationHigh) _ (λ z. omega arith) y.1 in
      let w = or_else-none (out_room e (elevated_count p e n ks) g a b c) (scratch_room p (extracted_count p (breaks_of p n ks)) d) u.1 in
      record {
        curve = q.0;
        clamped = q.1;
        low = ltb-false e p y.0;
        high = not-high p e u.0;
        out = out-open e (elevated_count p e n ks) g a b c w.0;
        scratch = scratch-open p (extracted_count p (breaks_of p n ks)) d w.1;
      }
