-- A curve that an edit forms has fewer than 2^32 points: its runs were not too long.
-- Assumes nothing.
use Rattle.std.specs.Prelude.{Result}
use Rattle.edits.specs.declared.answer.FormedCurve.{FormedCurve}
use Prim.Native.Nat.{ℕ, ◌+◌, ◌<◌, ◌≤◌}
use mathlib.Core.Bool.{Bool, true, false, cond}
use mathlib.Core.Path.{◌≡◌, refl, sym, subst}
use mathlib.Core.List.{List}
use native.Mathlib.Omega.{arith}
use borrow.Author.Tests.{eqb-true}
use lib.Dec.{eqb}
use lib.ListN.{length}
use lib.Ieee.{Float}
use Rattle.knots.specs.Curve.{count_of}
use Rattle.knots.specs.declared.refusal.Refusal.{Refusal}
use Rattle.edits.specs.Outcome.{Outcome, gives, refuses}
use Rattle.insertion.specs.Whole.{insert_start, insert_outcome, InsertMeets}
use Rattle.edits.specs.Whole.{answer_of}
use Rattle.insertion.proofs.StartOpen.{start-open}
use Rattle.trimming.specs.Trim.{kept_of, trim_start, trim_outcome, TrimMeets}
use Rattle.trimming.proofs.Ranges.{below-long, start-open as trim-open}
use Rattle.elevation.specs.Whole.{elevated_count, elevate_start, elevate_outcome, ElevateMeets}
use Rattle.elevation.proofs.Limits.{raised-small}
use Rattle.elevation.proofs.Opened.{opened}
use Rattle.exports.specs.Edits.{points_of}

formed-points : (p n : ℕ) (o : Outcome) → points_of (answer_of p n o) ≤ n
formed-points p n (gives ks ps ws) = omega arith
formed-points p n (refuses r) = omega arith

-- it is enough to look at a start s that is not refused
few : (p n : ℕ) (s : Refusal) (o : Outcome) (r : Result FormedCurve Refusal) → r ≡ answer_of p n (cond (eqb s.number 0) o (refuses s)) → (s.number ≡ 0 → n < 4294967296) → points_of r < 4294967296
few p n s o r m h = subst (λ (x : Result FormedCurve Refusal). points_of x < 4294967296) (sym m) (go (eqb s.number 0) refl)
  where
    go : (x : Bool) → eqb s.number 0 ≡ x → points_of (answer_of p n (cond x o (refuses s))) < 4294967296
    go true e = omega (arith, h (eqb-true _ _ e), formed-points p n o)
    go false e = omega arith

module _ (p : ℕ) (ks ps : List Float) (g : Bool) (ws : List Float) where
  pub few-inserted : (ts : List Float) {a b c d : ℕ} {k₁ p₁ w₁ s₁ : List Float} {r : (Result FormedCurve Refusal)} → InsertMeets p ks ps g ws ts a b c d k₁ p₁ w₁ s₁ r → points_of r < 4294967296
  unfolding insert_outcome
  few-inserted ts {a} {b} {c} {d} m = few p (count_of ps + length ts) (insert_start p ks ps g ws ts a b c d) _ _ m.answer small
    where
      small : (insert_start p ks ps g ws ts a b c d).number ≡ 0 → count_of ps + length ts < 4294967296
      small z = let o = start-open p ks ps g ws ts a b c d z in let l = o.curve.short.points in let t = o.few in omega arith

  pub few-kept : (lo hi : Float) {a b c d : ℕ} {k₁ p₁ w₁ s₁ : List Float} {r : (Result FormedCurve Refusal)} → TrimMeets p ks ps g ws lo hi a b c d k₁ p₁ w₁ s₁ r → points_of r < 4294967296
  unfolding trim_outcome kept_of
  few-kept lo hi {a} {b} {c} {d} m = few p (kept_of p ks lo hi) (trim_start p ks ps g ws lo hi a b c d) _ _ m.answer small
    where
      small : (trim_start p ks ps g ws lo hi a b c d).number ≡ 0 → kept_of p ks lo hi < 4294967296
      small z =
          let o = trim-open p ks ps g ws lo hi a b c d z in
          let k = o.curve.short.knots in
          let l = o.curve.short.points in
          let n = o.curve.knots.count in
          let h = below-long ks hi in
          omega arith

  pub few-raised : (e : ℕ) {a b c d : ℕ} {k₁ p₁ w₁ s₁ : List Float} {r : (Result FormedCurve Refusal)} → ElevateMeets p ks ps g ws e a b c d k₁ p₁ w₁ s₁ r → points_of r < 4294967296
  unfolding elevate_outcome
  few-raised e {a} {b} {c} {d} m = few e (elevated_count p e (count_of ps) ks) (elevate_start p ks ps g ws e a b c d) _ _ m.answer small
    where
      small : (elevate_start p ks ps g ws e a b c d).number ≡ 0 → elevated_count p e (count_of ps) ks < 4294967296
      small z =
          let o = opened p ks ps g ws e a b c d z in
          let n = o.curve.knots.count in
          let l = o.curve.short.points in
          let s : count_of ps ≤ 1048576 = omega arith in
          let f = (raised-small p (count_of ps) ks n s e o.high).0 in
          omega arith
