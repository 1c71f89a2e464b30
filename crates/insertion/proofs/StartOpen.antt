-- What no refusal of an insertion says before anything is formed.
-- Assumes nothing.
use Prim.Native.Nat.{ℕ, ◌+◌, ◌*◌, ◌≤◌}
use mathlib.Core.Bool.{Bool, true}
use mathlib.Core.Path.{◌≡◌, refl}
use mathlib.Core.List.{List}
use native.Mathlib.Omega.{arith}
use lib.ListN.{length}
use lib.Ieee.{Float}
use Rattle.knots.specs.Refusal.{refuse}
use Rattle.knots.specs.declared.refusal.Reason.TheVariants.{LengthBad}
use Rattle.knots.specs.Curve.{longest, over_long, count_of, ValidCurve}
use Rattle.knots.proofs.Refusals.{passed, or_else-none}
use Rattle.knots.proofs.Curves.{within}
use Rattle.edits.specs.Start.{edit_start, out_room, scratch_room}
use Rattle.insertion.specs.Whole.{insert_start}
use Rattle.edits.proofs.Starting.{edit-open, OutOpen, out-open, scratch-open}

pub record Open (p : ℕ) (ks ps : List Float) (g : Bool) (ws ts : List Float) (a b c d : ℕ) : Type 0 where
  pub curve : ValidCurve p ks ps g ws
  pub few : length ts ≤ longest
  pub out : OutOpen p (count_of ps + length ts) g a b c
  pub scratch : 10 * (count_of ps + length ts) + 2 * (p + 1) ≤ d

module _ (p : ℕ) (ks ps : List Float) (g : Bool) (ws ts : List Float) (a b c d : ℕ) where
  pub start-open : (insert_start p ks ps g ws ts a b c d).number ≡ 0 → Open p ks ps g ws ts a b c d
  unfolding insert_start
  start-open h =
      let N = count_of ps + length ts in
      let x = passed (over_long true ts) (refuse LengthBad) _ (λ e. omega arith) h in
      let y = or_else-none (edit_start p ks ps g ws) _ x.1 in
      let z = or_else-none (out_room p N g a b c) (scratch_room p N d) y.1 in
      record {
        curve = (edit-open p ks ps g ws y.0).0;
        few = within true ts x.0 refl;
        out = out-open p N g a b c z.0;
        scratch = scratch-open p N d z.1;
      }
