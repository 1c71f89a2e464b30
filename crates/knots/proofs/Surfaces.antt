-- A surface is not refused exactly where it is valid.
-- Assumes nothing.
use Prim.Native.Nat.{ℕ, ◌*◌, ◌/◌, ◌%◌}
use mathlib.Core.Bool.{Bool, true, not, ◌||◌}
use mathlib.Core.Path.{◌≡◌, refl, sym, ◌∙◌, ap, subst}
use mathlib.Core.List.{List}
use native.Mathlib.Omega.{arith}
use native.Mathlib.Nat.{mul-mod_right, mul-div_right}
use lib.ListN.{length}
use lib.Dec.{eqb}
use lib.Ieee.{Float}
use borrow.Author.Tests.{eqb-true, eq-eqb, not-false}
use Rattle.knots.specs.Refusal.{refuse, accepted, along, NetSize, LengthBad, PointsUneven}
use Rattle.knots.specs.Knots.{knot_refusal}
use Rattle.knots.specs.Curve.{over_long, any_long, count_of, ValidControls}
use Rattle.knots.specs.Surface.{net_refusal, surface_refusal, ValidSurface}
use Rattle.knots.proofs.Refusals.{passed, or_else-none}
use Rattle.knots.proofs.Valid.{valid, not-refused}
use Rattle.knots.proofs.Curves.{or-false, within, not-long, short, none-long, thirds, valid-controls, controls-not-refused}

module _ (p q : ℕ) (us vs : List Float) (m n : ℕ) (ps : List Float) (g : Bool) (ws : List Float) where
  pub valid-surface : (surface_refusal p q us vs m n ps g ws).number ≡ 0 → ValidSurface p q us vs m n ps g ws
  unfolding surface_refusal net_refusal
  valid-surface h =
      let x = or_else-none (net_refusal us vs m n ps g ws) _ h in
      let y = or_else-none (along 0 (knot_refusal p m us)) _ x.1 in
      let z = or_else-none (along 1 (knot_refusal q n vs)) _ y.1 in
      let a = passed (over_long true us || any_long vs ps g ws) (refuse LengthBad) _ (λ e. omega arith) x.0 in
      let b = passed (not (eqb (length ps % 3) 0)) (refuse PointsUneven) _ (λ e. omega arith) a.1 in
      let c = passed (not (eqb (count_of ps) (m * n))) (refuse NetSize) accepted (λ e. omega arith) b.1 in
      let long = or-false (over_long true us) (any_long vs ps g ws) a.0 in
      let size : count_of ps ≡ m * n = eqb-true (count_of ps) (m * n) (not-false _ c.0) in
      record {
        short-u = within true us long.0 refl;
        short = short vs ps g ws long.1;
        triples = thirds (length ps) (eqb-true (length ps % 3) 0 (not-false _ b.0)) ∙ ap (λ (k : ℕ). 3 * k) size;
        u = valid p m us y.0;
        v = valid q n vs z.0;
        controls = subst (λ (k : ℕ). ValidControls k ps g ws) size (valid-controls (count_of ps) ps g ws z.1);
      }

  pub surface-not-refused : ValidSurface p q us vs m n ps g ws → surface_refusal p q us vs m n ps g ws ≡ accepted
  unfolding surface_refusal net_refusal
  surface-not-refused s =
      let rest : length ps % 3 ≡ 0 = ap (λ (k : ℕ). k % 3) s.triples ∙ mul-mod_right 3 (m * n) in
      let size : count_of ps ≡ m * n = ap (λ (k : ℕ). k / 3) s.triples ∙ mul-div_right (m * n) (omega arith) in
      simp (
        not-long true us (λ e. s.short-u),
        none-long vs ps g ws s.short,
        eq-eqb (length ps % 3) 0 rest,
        eq-eqb (count_of ps) (m * n) size,
        not-refused p m us s.u,
        not-refused q n vs s.v,
        controls-not-refused (count_of ps) ps g ws (subst (λ (k : ℕ). ValidControls k ps g ws) (sym size) s.controls),
      )
