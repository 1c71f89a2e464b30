-- The curve that the raised segments form, put together from its parts.
-- Assumes nothing.
use Rattle.std.specs.Prelude.{Result, Err}
use Prim.Native.Nat.{ℕ, ◌+◌, ◌*◌}
use mathlib.Core.Bool.{Bool, true, false}
use mathlib.Core.Path.{◌≡◌, refl, sym, ◌∙◌, ap}
use mathlib.Core.List.{List}
use lib.ListN.{length, take, drop}
use lib.Seq.{take_at}
use lib.Ieee.{Float}
use Rattle.knots.specs.Refusal.{refuse, checked}
use Rattle.knots.specs.declared.refusal.Reason.TheVariants.{EditBad}
use Rattle.knots.specs.Curve.{formed_refusal}
use Rattle.knots.specs.declared.refusal.Refusal.{Refusal}
use Rattle.runs.specs.declared.vector.Vector.{Vector}
use Rattle.edits.specs.Rows.{given}
use Rattle.edits.specs.Whole.{given_of}
use Rattle.edits.specs.declared.control.Control.{Control}
use Rattle.elevation.specs.Elevate.{raised_count, raised_knots, kept_all, points_of, weights_of}
use Rattle.elevation.specs.Passes.{over, Put, join_refusal, Joined}
use Rattle.elevation.proofs.KnotWalks.{raised_long}
use Rattle.elevation.proofs.Putting.{points-long, given-long}
use Rattle.elevation.proofs.SegmentWalk.{kept-count}

-- the front of a run that was written
front-over : (l d xs : List Float) (m : ℕ) → length l ≡ m → xs ≡ over 0 l d → take m xs ≡ l
unfolding over
front-over l d xs m e h = ap (take m) h ∙ take_at l (drop (0 + length l) d) m e

given-none : (g : Bool) → given g 0 ≡ 0
given-none true = refl
given-none false = refl

module _ (p e n : ℕ) (ks bs : List Float) (g : Bool) (h : ℕ → Control) (o : Vector) (k₀ p₀ w₀ k₁ p₁ w₁ : List Float) (a : Bool) (A : Put o g (kept_all p e ks h bs) 0 p₀ w₀ p₁ w₁ a) where
  abbrev kept : List Control
  kept = kept_all p e ks h bs

  pub join-20 : a ≡ false → (r : Refusal) → r ≡ refuse EditBad → Joined p e n ks bs g h o k₀ p₀ w₀ k₁ p₁ w₁ (Err r)
  unfolding join_refusal checked
  join-20 z r R = record { refusal = simp (sym A.answer ∙ z) (ap Err R); knots = λ y. cc; points = λ y. cc; weights = λ y. cc }

  module _ (z : a ≡ true) (K : k₁ ≡ over 0 (raised_knots p e n ks bs) k₀) where
    points-is : p₁ ≡ over 0 (points_of o kept) p₀
    points-is = A.points z

    weights-is : w₁ ≡ over 0 (given_of g (weights_of kept)) w₀
    weights-is = A.weights z ∙ ap (λ (i : ℕ). over i (given_of g (weights_of kept)) w₀) (given-none g)

    pub join-end : (c : ℕ) → c ≡ raised_count p e ks bs → (r : Result Unit Refusal)
        → r ≡ checked (formed_refusal e c (take (c + e + 1) k₁) (take (c * 3) p₁) g (take (given g c) w₁)) → Joined p e n ks bs g h o k₀ p₀ w₀ k₁ p₁ w₁ r
    unfolding join_refusal
    join-end c C r R =
        let m = kept-count p e ks h bs in
        let i = front-over (raised_knots p e n ks bs) k₀ k₁ (c + e + 1) (raised_long p e n ks bs ∙ ap (λ (x : ℕ). x + e + 1) (sym C)) K in
        let j = front-over (points_of o kept) p₀ p₁ (c * 3) (points-long o kept ∙ ap (λ (x : ℕ). x * 3) (m ∙ sym C)) points-is in
        let l = front-over (given_of g (weights_of kept)) w₀ w₁ (given g c) (given-long g kept ∙ ap (given g) (m ∙ sym C)) weights-is in
        record {
          refusal = simp (sym A.answer ∙ z) (R ∙ ap checked (moved C i j l));
          knots = λ y. K;
          points = λ y. points-is;
          weights = λ y. weights-is;
        }
      where
        moved : {c' : ℕ} {i i' j j' l l' : List Float} → c ≡ c' → i ≡ i' → j ≡ j' → l ≡ l' → formed_refusal e c i j g l ≡ formed_refusal e c' i' j' g l'
        moved D I J L = rw (D, I, J, L)
