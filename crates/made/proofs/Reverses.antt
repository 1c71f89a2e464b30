-- The answers of `reversed`.
-- Assumes nothing.
use Prim.Native.Nat.{ℕ, ◌≤◌}
use mathlib.Core.Bool.{Bool, true, false}
use mathlib.Core.Path.{◌≡◌, sym, ◌∙◌, ap, ap₂, subst}
use mathlib.Core.List.{List, ◌++◌}
use native.Mathlib.Omega.{arith}
use lib.ListN.{length, take, drop}
use lib.Ieee.{Float}
use borrow.Author.Tests.{eq-eqb}
use Rattle.doubles.specs.Run.{at}
use Rattle.knots.specs.Clear.{zeros}
use Rattle.knots.specs.Curve.{count_of, curve_refusal, formed_refusal, ValidCurve}
use Rattle.std.specs.Prelude.{Result, Err}
use Rattle.std.specs.Result.{is_err}
use Rattle.knots.specs.Refusal.{checked}
use Rattle.knots.specs.declared.refusal.Refusal.{Refusal}
use Rattle.made.proofs.Told.{told-ok, told-err}
use Rattle.knots.proofs.Refusals.{or_else-none, let_by, stopped_by, refused-first}
use Rattle.knots.proofs.Curves.{valid-curve}
use Rattle.runs.specs.Tabulate.{tabulate}
use Rattle.runs.proofs.Tabulated.{length-tabulate}
use Rattle.knots.specs.Shape.{room_refusal}
use Rattle.runs.specs.Lent.{padded}
use Rattle.made.specs.Reverse.{given_length, back_knot, back_point, back_weight, back_knots, back_points, back_weights, reverse_formed, reverse_start, reverse_refusal, ReverseFormed, ReverseMeets}
use Rattle.knots.proofs.Shapes.{room_open}
use Rattle.runs.proofs.Overlays.{stored, take-padded, left-refused, left-answered}

pub given-in : (g : Bool) (ws : List Float) → given_length g ws ≤ length ws
unfolding given_length
given-in true ws = omega arith
given-in false ws = omega arith

module _ (p : ℕ) (ks ps : List Float) (g : Bool) (ws : List Float) where
  -- what no refusal says before anything is formed
  pub record StartOpen (a b c : ℕ) : Type 0 where
    pub curve : ValidCurve p ks ps g ws
    pub knots-room : length ks ≤ a
    pub points-room : length ps ≤ b
    pub weights-room : given_length g ws ≤ c

  pub start-open : (a b c : ℕ) → (reverse_start p ks ps g ws a b c).number ≡ 0 → StartOpen a b c
  unfolding reverse_start
  start-open a b c h =
      let x = or_else-none (curve_refusal p ks ps g ws) _ h in
      let y = or_else-none (room_refusal a (length ks)) _ x.1 in
      let z = or_else-none (room_refusal b (length ps)) (room_refusal c (given_length g ws)) y.1 in
      record {
        curve =
            valid-curve p ks ps g ws x.0;
        knots-room = room_open a (length ks) y.0;
        points-room = room_open b (length ps) z.0;
        weights-room = room_open c (given_length g ws) z.1;
      }

  -- the three loops and the check of what they formed
  pub formed-is : (k₀ p₀ w₀ k₁ p₁ w₁ : List Float) → k₀ ≡ zeros (length k₀) → p₀ ≡ zeros (length p₀) → w₀ ≡ zeros (length w₀)
      → k₁ ≡ tabulate (length ks) (back_knot (at ks p) (at ks (count_of ps)) ks) ++ drop (length ks) k₀ → p₁ ≡ tabulate (length ps) (back_point ps) ++ drop (length ps) p₀
      → (n : ℕ) → n ≡ given_length g ws → w₁ ≡ tabulate n (back_weight n ws) ++ drop n w₀
      → (r : Result (Unit {0}) Refusal) → r ≡ checked (formed_refusal p (count_of ps) (take (length ks) k₁) (take (length ps) p₁) g (take n w₁))
      → ReverseFormed p ks ps g ws (length k₀) (length p₀) (length w₀) k₁ p₁ w₁ r
  unfolding back_knots back_points back_weights reverse_formed
  formed-is k₀ p₀ w₀ k₁ p₁ w₁ K₀ P₀ W₀ K P n N W r R =
      let k = stored (length ks) (length k₀) (back_knot (at ks p) (at ks (count_of ps)) ks) k₀ k₁ K₀ K in
      let q = stored (length ps) (length p₀) (back_point ps) p₀ p₁ P₀ P in
      let w' = stored n (length w₀) (back_weight n ws) w₀ w₁ W₀ W in
      let w : w₁ ≡ padded (length w₀) (back_weights g ws) = w' ∙ ap (λ (i : ℕ). padded (length w₀) (tabulate i (back_weight i ws))) N in
      let long : length (back_weights g ws) ≡ n = length-tabulate (given_length g ws) (back_weight (given_length g ws) ws) ∙ sym N in
      record {
        refusal = R
            ∙ (ap₂ (λ (x y : List Float). checked (formed_refusal p (count_of ps) x y g (take n w₁)))
            (take-padded (length ks) (length k₀) (back_knots p (count_of ps) ks) k₁ (length-tabulate (length ks) _) k)
            (take-padded (length ps) (length p₀) (back_points ps) p₁ (length-tabulate (length ps) _) q)
            ∙ ap (λ (x : List Float). checked (formed_refusal p (count_of ps) (back_knots p (count_of ps) ks) (back_points ps) g x)) (take-padded n (length w₀) (back_weights g ws) w₁ long w));
        knots = k;
        points = q;
        weights = w;
      }

  pub resized : (a b c a' b' c' : ℕ) (k₁ p₁ w₁ : List Float) (r : Result (Unit {0}) Refusal) → a' ≡ a → b' ≡ b → c' ≡ c → ReverseFormed p ks ps g ws a' b' c' k₁ p₁ w₁ r → ReverseFormed p ks ps g ws a b c k₁ p₁ w₁ r
  resized a b c a' b' c' k₁ p₁ w₁ r A B C F = record {
    refusal = F.refusal;
    knots = F.knots ∙ ap (λ (i : ℕ). padded i (back_knots p (count_of ps) ks)) A;
    points = F.points ∙ ap (λ (i : ℕ). padded i (back_points ps)) B;
    weights = F.weights ∙ ap (λ (i : ℕ). padded i (back_weights g ws)) C;
  }

  module _ (a b c : ℕ) where
    reverse-stopped : (r : Refusal) → Err r ≡ checked (reverse_refusal p ks ps g ws a b c) → (k₁ p₁ w₁ : List Float) → k₁ ≡ zeros a → p₁ ≡ zeros b → w₁ ≡ zeros c
        → ReverseMeets p ks ps g ws a b c k₁ p₁ w₁ (Err r)
    reverse-stopped r e k₁ p₁ w₁ K P W =
        let h = (stopped_by _ e).1 in
        record { refusal = e; knots = left-refused _ a _ k₁ h K; points = left-refused _ b _ p₁ h P; weights = left-refused _ c _ w₁ h W }

    pub reverse-refused : {r : Refusal} → Err r ≡ checked (reverse_start p ks ps g ws a b c) → (k₁ p₁ w₁ : List Float) → k₁ ≡ zeros a → p₁ ≡ zeros b → w₁ ≡ zeros c
        → ReverseMeets p ks ps g ws a b c k₁ p₁ w₁ (Err r)
    unfolding reverse_refusal
    reverse-refused e = reverse-stopped _ (refused-first _ _ e)

    module _ (z : (reverse_start p ks ps g ws a b c).number ≡ 0) (r : Result (Unit {0}) Refusal) (k₁ p₁ w₁ : List Float) (F : ReverseFormed p ks ps g ws a b c k₁ p₁ w₁ r) where
      refusal_is : r ≡ checked (reverse_refusal p ks ps g ws a b c)
      unfolding reverse_refusal
      refusal_is = simp (eq-eqb _ 0 z) F.refusal

      pub reverse-answered : is_err r ≡ false → ReverseMeets p ks ps g ws a b c k₁ p₁ w₁ r
      reverse-answered h =
          let e = told-ok r h in
          let n = let_by _ (sym e ∙ refusal_is) in
          record { refusal = refusal_is; knots = left-answered _ a _ k₁ n F.knots; points = left-answered _ b _ p₁ n F.points; weights = left-answered _ c _ w₁ n F.weights }

      pub reverse-unformed : is_err r ≡ true → (k₂ p₂ w₂ : List Float) → k₂ ≡ zeros a → p₂ ≡ zeros b → w₂ ≡ zeros c → ReverseMeets p ks ps g ws a b c k₂ p₂ w₂ r
      reverse-unformed h k₂ p₂ w₂ K P W =
          let x = told-err r h in
          subst (ReverseMeets p ks ps g ws a b c k₂ p₂ w₂) (sym x.1) (reverse-stopped x.0 (sym x.1 ∙ refusal_is) k₂ p₂ w₂ K P W)

  -- any two outcomes that the contract permits coincide
  pub reverse-unique : (a b c : ℕ) (k₁ p₁ w₁ k₂ p₂ w₂ : List Float) (r s : Result (Unit {0}) Refusal) → ReverseMeets p ks ps g ws a b c k₁ p₁ w₁ r → ReverseMeets p ks ps g ws a b c k₂ p₂ w₂ s
      → (r ≡ s) × (k₁ ≡ k₂) × (p₁ ≡ p₂) × (w₁ ≡ w₂)
  reverse-unique a b c k₁ p₁ w₁ k₂ p₂ w₂ r s M N = (M.refusal ∙ sym N.refusal, M.knots ∙ sym N.knots, M.points ∙ sym N.points, M.weights ∙ sym N.weights)
