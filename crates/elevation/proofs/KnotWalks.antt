-- The knots of the raised curve are written, break by break.
-- Assumes nothing.
use Prim.Native.Nat.{ℕ, suc, ◌+◌, ◌-◌, ◌*◌, ◌≤◌}
use mathlib.Core.Path.{◌≡◌, refl, sym, ◌∙◌, ap, subst}
use mathlib.Core.List.{List, [], ◌∷◌, ◌++◌}
use native.Mathlib.Omega.{arith}
use lib.ListN.{length, take, drop, replicate, length-append, length-replicate}
use borrow.Rule.Slice.PartMut.{put_mid}
use lib.Ieee.{Float}
use Rattle.doubles.specs.Run.{at}
use Rattle.edits.specs.Counts.{bit}
use Rattle.elevation.specs.Breaks.{is_full, full_count}
use Rattle.elevation.specs.Elevate.{break_knots, raised_knots, raised_count}
use Rattle.elevation.specs.Passes.{over}
use Rattle.elevation.proofs.Overlaid.{over_none, over-long, over-over, filled}

-- ---- how many there are
pub knots-step : (p e : ℕ) (ks : List Float) (t : Float) (ts : List Float) → length (break_knots p e ks (t ∷ ts)) ≡ e + bit (is_full p ks t) + length (break_knots p e ks ts)
unfolding break_knots
knots-step p e ks t ts =
    length-append (replicate (e + bit (is_full p ks t)) t) (break_knots p e ks ts) ∙ ap (λ (x : ℕ). x + length (break_knots p e ks ts)) (length-replicate (e + bit (is_full p ks t)) t)

knots-long : (p e : ℕ) (ks ts : List Float) → length (break_knots p e ks ts) ≡ length ts * e + full_count p ks ts
unfolding break_knots full_count
knots-long p e ks [] = omega arith
knots-long p e ks (t ∷ ts) = knots-step p e ks t ts ∙ go (length ts) (knots-long p e ks ts)
  where
    go : (b : ℕ) → length (break_knots p e ks ts) ≡ b * e + full_count p ks ts → e + bit (is_full p ks t) + length (break_knots p e ks ts) ≡ suc b * e + (bit (is_full p ks t) + full_count p ks ts)
    go b y = omega arith

pub raised-count : (p e : ℕ) (ks bs : List Float) → (e + 1) + length (break_knots p e ks bs) ≡ raised_count p e ks bs
unfolding raised_count
raised-count p e ks bs = go (length bs) (knots-long p e ks bs)
  where
    go : (b : ℕ) → length (break_knots p e ks bs) ≡ b * e + full_count p ks bs → (e + 1) + length (break_knots p e ks bs) ≡ (e + 1) * (b + 1) - b + full_count p ks bs
    go b h = omega arith

-- the knots of the breaks ts are still to come, from place i on
pub record InKnots (p e : ℕ) (ks bs : List Float) (j : ℕ) (k₀ k₁ : List Float) (ts : List Float) (i : ℕ) : Type 0 where
  pub long : length k₁ ≡ length k₀
  pub count : i + length (break_knots p e ks ts) ≡ j + length (break_knots p e ks bs)
  pub goal : over i (break_knots p e ks ts) k₁ ≡ over j (break_knots p e ks bs) k₀

module _ (p e : ℕ) (ks bs : List Float) (j : ℕ) (k₀ : List Float) where
  module _ (ts : List Float) (i : ℕ) (k₁ : List Float) (I : InKnots p e ks bs j k₀ k₁ ts i) where
    module _ (room : j + length (break_knots p e ks bs) ≤ length k₀) (t : Float) (tail : List Float) (T : ts ≡ t ∷ tail) (m : ℕ) (M : m ≡ e + bit (is_full p ks t)) where
      here : InKnots p e ks bs j k₀ k₁ (t ∷ tail) i
      here = subst (λ (x : List Float). InKnots p e ks bs j k₀ k₁ x i) T I

      split : break_knots p e ks (t ∷ tail) ≡ replicate m t ++ break_knots p e ks tail
      unfolding break_knots
      split = ap (λ (x : ℕ). replicate x t ++ break_knots p e ks tail) (sym M)

      sum : length (break_knots p e ks (t ∷ tail)) ≡ m + length (break_knots p e ks tail)
      sum = knots-step p e ks t tail ∙ ap (λ (x : ℕ). x + length (break_knots p e ks tail)) (sym M)

      pub knots-room : i + m ≤ length k₁
      knots-room = let a = here.long in let b = here.count in let c = sum in omega arith

      pub knots-more : (k₂ : List Float) → k₂ ≡ over i (replicate m t) k₁ → InKnots p e ks bs j k₀ k₂ tail (i + m)
      knots-more k₂ E =
          let r = length-replicate m t in
          let a = here.long in
          let b = here.count in
          let c = sum in
          let d = knots-room in
          record {
            long = ap length E ∙ (over-long i (replicate m t) k₁ (omega arith) ∙ a);
            count = omega arith;
            goal = ap (over (i + m) (break_knots p e ks tail)) E
                ∙ (over-over i (i + m) (replicate m t) (break_knots p e ks tail) k₁ (omega arith) d
                ∙ (ap (λ (x : List Float). over i x k₁) (sym split) ∙ here.goal));
          }

    pub knots-end : ts ≡ [] → (i ≡ j + length (break_knots p e ks bs)) × (k₁ ≡ over j (break_knots p e ks bs) k₀)
    unfolding break_knots
    knots-end E =
        let D = subst (λ (x : List Float). InKnots p e ks bs j k₀ k₁ x i) E I in
        let b = D.count in
        (omega arith, sym (over_none i k₁) ∙ D.goal)

-- ---- the ends before and behind them
module _ (p e n : ℕ) (ks bs : List Float) where
  pub raised-parts : length (raised_knots p e n ks bs) ≡ e + 1 + (length (break_knots p e ks bs) + (e + 1))
  unfolding raised_knots
  raised-parts =
      length-append (replicate (e + 1) (at ks p)) (break_knots p e ks bs ++ replicate (e + 1) (at ks n))
      ∙ (ap (λ (x : ℕ). length (replicate (e + 1) (at ks p)) + x) (length-append (break_knots p e ks bs) (replicate (e + 1) (at ks n)))
      ∙ (omega (arith, length-replicate (e + 1) (at ks p), length-replicate (e + 1) (at ks n))))

  -- first a fill of the front, then the breaks, then a fill behind them
  module _ (k₀ : List Float) (room : length (raised_knots p e n ks bs) ≤ length k₀) where
    pub front-room : e + 1 ≤ length k₀
    front-room = let r = raised-parts in omega arith

    module _ (ys : List Float) (Y : ys ≡ replicate (length (take (e + 1) k₀)) (at ks p)) where
      abbrev k₁ : List Float
      k₁ = ys ++ drop (e + 1) k₀

      front-is : k₁ ≡ over 0 (replicate (e + 1) (at ks p)) k₀
      front-is = let f = front-room in filled 0 (e + 1) (e + 1) (at ks p) k₀ ys refl (omega arith) Y

      ends-long : length k₁ ≡ length k₀
      ends-long = let r = raised-parts in ap length front-is ∙ over-long 0 (replicate (e + 1) (at ks p)) k₀ (omega (arith, length-replicate (e + 1) (at ks p)))

      pub breaks-room : e + 1 + length (break_knots p e ks bs) ≤ length k₁
      breaks-room = let r = raised-parts in let l = ends-long in omega arith

      module _ (k₂ : List Float) (F : k₂ ≡ over (e + 1) (break_knots p e ks bs) k₁) (i : ℕ) (I : i ≡ e + 1 + length (break_knots p e ks bs)) where
        pub end-room : i + (e + 1) ≤ length k₂
        end-room =
            let r = raised-parts in
            let l = ends-long in
            let m : length k₂ ≡ length k₁ = ap length F ∙ over-long (e + 1) (break_knots p e ks bs) k₁ breaks-room in
            omega arith

        pub knots-whole : (k : ℕ) (zs : List Float) → k ≡ e + 1 → zs ≡ replicate (length (take k (drop i k₂))) (at ks n) → put_mid i k k₂ zs ≡ over 0 (raised_knots p e n ks bs) k₀
        unfolding raised_knots
        knots-whole k zs K Z =
            let r = raised-parts in
            let l = ends-long in
            let m = end-room in
            let b = breaks-room in
            filled i (e + 1) k (at ks n) k₂ zs K end-room Z
            ∙ (ap (over i (replicate (e + 1) (at ks n))) F
            ∙ (over-over (e + 1) i (break_knots p e ks bs) (replicate (e + 1) (at ks n)) k₁ I (omega arith)
            ∙ (ap (over (e + 1) (break_knots p e ks bs ++ replicate (e + 1) (at ks n))) front-is
            ∙ over-over 0 (e + 1) (replicate (e + 1) (at ks p)) (break_knots p e ks bs ++ replicate (e + 1) (at ks n)) k₀ (omega (arith, length-replicate (e + 1) (at ks p))) (omega arith))))

  -- as many as the raised curve has
  pub raised_long : length (raised_knots p e n ks bs) ≡ raised_count p e ks bs + e + 1
  raised_long = raised-parts ∙ omega (arith, raised-count p e ks bs)
