-- Isoparametric curves, point by point.
-- Assumes nothing.
use Prim.Native.Nat.{ℕ, ◌+◌, ◌*◌, ◌/◌, ◌%◌, ◌≤◌, ◌<◌}
use mathlib.Core.Bool.{Bool, true, false}
use mathlib.Core.Path.{◌≡◌, sym, ◌∙◌, ap, ap₂, subst}
use mathlib.Core.List.{List, ◌++◌}
use native.Mathlib.Omega.{arith}
use lib.ListN.{length, set, drop}
use lib.Ieee.{Float, binary64, mul, div}
use Rattle.knots.specs.Below.{all_below}
use Rattle.knots.specs.Curve.{is_weight}
use Rattle.knots.proofs.Below.{all_none, all_more, all-fails}
use Rattle.runs.specs.Tabulate.{tabulate}
use Rattle.runs.specs.Weight.{weight_at}
use Rattle.runs.specs.Point.{point_of}
use Rattle.made.specs.Iso.{place_of, iso_term, iso_part, part, iso_coordinate, iso_weight, IsoDone}
use Rattle.runs.specs.declared.vector.Vector.{Vector}
use Rattle.evaluate.specs.declared.sums.Sums.{Sums}
use Rattle.runs.proofs.Overlays.{store-none, store-more}

pub part-is : (ps : List Float) (g : Bool) (ws : List Float) (u : Bool) (n b : ℕ) (f : ℕ → Float) (k j i : ℕ) (q : Vector) (w : Float) (t : Sums)
    → i ≡ place_of u n (b + j) k → w ≡ weight_at g ws i → q ≡ point_of ps i → t ≡ iso_term q (mul binary64 w (f j)) → t ≡ iso_part ps g ws u n b f k j
unfolding iso_part
part-is ps g ws u n b f k j i q w t I W Q T =
    T ∙ (ap₂ (λ (x : Vector) (y : Float). iso_term x (mul binary64 y (f j))) Q W ∙ ap (λ (m : ℕ). iso_term (point_of ps m) (mul binary64 (weight_at g ws m) (f j))) I)

coordinate-is : (h : ℕ → Sums) (k r i : ℕ) → i / 3 ≡ k → i % 3 ≡ r → div binary64 (part r (h k)) (h k).w ≡ iso_coordinate h i
unfolding iso_coordinate
coordinate-is h k r i K R = ap₂ (λ (x y : ℕ). div binary64 (part y (h x)) (h x).w) (sym K) (sym R)

-- k points and weights are there
pub record InIso (h : ℕ → Sums) (p₀ w₀ p₁ w₁ : List Float) (k : ℕ) : Type 0 where
  pub good : all_below (λ i. is_weight (h i).w) k ≡ true
  pub points : p₁ ≡ tabulate (k * 3) (iso_coordinate h) ++ drop (k * 3) p₀
  pub weights : w₁ ≡ tabulate k (iso_weight h) ++ drop k w₀

module _ (h : ℕ → Sums) (m : ℕ) (p₀ w₀ : List Float) where
  pub iso-start : InIso h p₀ w₀ p₀ w₀ 0
  iso-start = record {
    good = all_none (λ i. is_weight (h i).w);
    points = store-none (iso_coordinate h) p₀;
    weights = store-none (iso_weight h) w₀;
  }

  module _ (p₁ w₁ : List Float) (k : ℕ) (I : InIso h p₀ w₀ p₁ w₁ k) (b : k < m) (P : m * 3 ≤ length p₀) (W : m ≤ length w₀) (s : Sums) (S : s ≡ h k) where
    pub iso-stop : is_weight s.w ≡ false → IsoDone h m p₀ w₀ p₁ w₁ false
    iso-stop e = record {
      answer = sym (all-fails (λ i. is_weight (h i).w) m k b (ap (λ (x : Sums). is_weight x.w) (sym S) ∙ e));
      points = λ q. let z : ◌≡◌ {A = ℕ} 0 1 = cc in absurd (omega arith);
      weights = λ q. let z : ◌≡◌ {A = ℕ} 0 1 = cc in absurd (omega arith);
    }

    pub iso-more : is_weight s.w ≡ true → (p₂ : List Float)
        → p₂ ≡ set (set (set p₁ (k * 3) (div binary64 s.x s.w)) (k * 3 + 1) (div binary64 s.y s.w)) (k * 3 + 2) (div binary64 s.z s.w)
        → InIso h p₀ w₀ p₂ (set w₁ k s.w) (k + 1)
    iso-more e p₂ E =
        let f = iso_coordinate h in
        let one = store-more (k * 3) f p₀ p₁ _ (omega arith) I.points (ap (λ (x : Sums). div binary64 x.x x.w) S ∙ coordinate-is h k 0 (k * 3) (omega arith) (omega arith)) in
        let two = store-more (k * 3 + 1) f p₀ _ _ (omega arith) one (ap (λ (x : Sums). div binary64 x.y x.w) S ∙ coordinate-is h k 1 (k * 3 + 1) (omega arith) (omega arith)) in
        let three =
        store-more
        (k * 3 + 1 + 1) f p₀ _ (div binary64 s.z s.w) (omega arith) two (ap (λ (x : Sums). div binary64 x.z x.w) S ∙ coordinate-is h k 2 (k * 3 + 1 + 1) (omega arith) (omega arith)) in
        let n : k * 3 + 1 + 1 + 1 ≡ (k + 1) * 3 = omega arith in
        let n2 : k * 3 + 2 ≡ k * 3 + 1 + 1 = omega arith in
        record {
          good = all_more (λ i. is_weight (h i).w) k I.good (ap (λ (x : Sums). is_weight x.w) (sym S) ∙ e);
          points = E ∙ (ap (λ (i : ℕ). set (set (set p₁ (k * 3) (div binary64 s.x s.w)) (k * 3 + 1) (div binary64 s.y s.w)) i (div binary64 s.z s.w)) n2
              ∙ subst
              (λ (i : ℕ). set (set (set p₁ (k * 3) (div binary64 s.x s.w)) (k * 3 + 1) (div binary64 s.y s.w)) (k * 3 + 1 + 1) (div binary64 s.z s.w) ≡ tabulate i f ++ drop i p₀) n
              three);
          weights = store-more k (iso_weight h) w₀ w₁ s.w (omega arith) I.weights (ap (λ (x : Sums). x.w) S);
        }

  pub iso-end : (p₁ w₁ : List Float) (k : ℕ) → InIso h p₀ w₀ p₁ w₁ k → k ≡ m → IsoDone h m p₀ w₀ p₁ w₁ true
  iso-end p₁ w₁ k I e = record {
    answer = sym (subst (λ (i : ℕ). all_below (λ i. is_weight (h i).w) i ≡ true) e I.good);
    points = λ q. subst (λ (i : ℕ). p₁ ≡ tabulate (i * 3) (iso_coordinate h) ++ drop (i * 3) p₀) e I.points;
    weights = λ q. subst (λ (i : ℕ). w₁ ≡ tabulate i (iso_weight h) ++ drop i w₀) e I.weights;
  }
