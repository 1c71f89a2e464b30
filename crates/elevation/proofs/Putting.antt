-- Points and weights are written control by control, and segment by segment: what is left to write.
-- Assumes nothing.
use Prim.Native.Nat.{ℕ, zero, suc, ◌+◌, ◌-◌, ◌*◌, ◌≤◌, ◌<◌}
use mathlib.Core.Bool.{Bool, true, false, ◌&&◌}
use mathlib.Core.Path.{◌≡◌, refl, sym, ◌∙◌, ap, ap₂, subst}
use mathlib.Core.List.{List, [], ◌∷◌, ◌++◌}
use native.Mathlib.Omega.{arith}
use lib.ListN.{length, length-append}
use lib.Ieee.{Float}
use Rattle.runs.specs.declared.vector.Vector.{Vector}
use Rattle.edits.specs.Control.{is_blended, lower_of}
use Rattle.edits.specs.Rows.{given}
use Rattle.edits.specs.Whole.{given_of}
use Rattle.edits.specs.declared.control.Control.{Control}
use Rattle.elevation.specs.Elevate.{controls_of, all_blended, points_of, weights_of}
use Rattle.runs.specs.Point.{three_of}
use Rattle.elevation.specs.Passes.{over, Put}
use Rattle.elevation.proofs.Overlaid.{over_none, over-long, over-over}

-- ---- one list after the other
pub points-append : (o : Vector) (a b : List Control) → points_of o (a ++ b) ≡ points_of o a ++ points_of o b
unfolding points_of
points-append o [] b = refl
points-append o (q ∷ a) b = ap (λ (x : List Float). three_of (lower_of o q) ++ x) (points-append o a b)

pub points-long : (o : Vector) (a : List Control) → length (points_of o a) ≡ length a * 3
unfolding points_of
points-long o [] = omega arith
points-long o (q ∷ a) = omega (arith, points-long o a)

weights-append : (a b : List Control) → weights_of (a ++ b) ≡ weights_of a ++ weights_of b
unfolding weights_of
weights-append [] b = refl
weights-append (q ∷ a) b = ap (λ (x : List Float). q.w ∷ x) (weights-append a b)

weights-long : (a : List Control) → length (weights_of a) ≡ length a
unfolding weights_of
weights-long [] = refl
weights-long (q ∷ a) = ap suc (weights-long a)

given-append : (g : Bool) (a b : List Control) → given_of g (weights_of (a ++ b)) ≡ given_of g (weights_of a) ++ given_of g (weights_of b)
given-append true a b = weights-append a b
given-append false a b = refl

pub given-long : (g : Bool) (a : List Control) → length (given_of g (weights_of a)) ≡ given g (length a)
given-long true a = weights-long a
given-long false a = refl

given-sum : (g : Bool) (i n : ℕ) → given g (i + n) ≡ given g i + given g n
given-sum true i n = refl
given-sum false i n = omega arith

pub given-within : (g : Bool) (i n m : ℕ) → i + n ≤ m → given g (i + n) ≤ given g m
given-within true i n m l = l
given-within false i n m l = omega arith

blended-append : (a b : List Control) → all_blended (a ++ b) ≡ (all_blended a && all_blended b)
unfolding all_blended
blended-append [] b = refl
blended-append (q ∷ a) b = ap (λ (x : Bool). is_blended q && x) (blended-append a b) ∙ and_assoc (is_blended q)
  where
    and_assoc : (x : Bool) → (x && (all_blended a && all_blended b)) ≡ ((x && all_blended a) && all_blended b)
    and_assoc true = refl
    and_assoc false = refl

-- ---- the controls L are still to be written, from place i on
pub record Putting (o : Vector) (g : Bool) (l : List Control) (j : ℕ) (p₀ w₀ : List Float) (L : List Control) (i : ℕ) (p₁ w₁ : List Float) : Type 0 where
  pub long-points : length p₁ ≡ length p₀
  pub long-weights : length w₁ ≡ length w₀
  pub count : i + length L ≡ j + length l
  pub answer : all_blended L ≡ all_blended l
  pub points : over (i * 3) (points_of o L) p₁ ≡ over (j * 3) (points_of o l) p₀
  pub weights : over (given g i) (given_of g (weights_of L)) w₁ ≡ over (given g j) (given_of g (weights_of l)) w₀

module _ (o : Vector) (g : Bool) (l : List Control) (j : ℕ) (p₀ w₀ : List Float) where
  pub putting-start : Putting o g l j p₀ w₀ l j p₀ w₀
  putting-start = record { long-points = refl; long-weights = refl; count = refl; answer = refl; points = refl; weights = refl }

  module _ (a L : List Control) (i : ℕ) (p₁ w₁ : List Float) (I : Putting o g l j p₀ w₀ (a ++ L) i p₁ w₁) where
    module _ (p₂ w₂ : List Float) where
      pub putting-stop : (r : Bool) → Put o g a i p₁ w₁ p₂ w₂ r → r ≡ false → Put o g l j p₀ w₀ p₂ w₂ false
      putting-stop r P e = record {
        answer = sym (sym I.answer ∙ (blended-append a L ∙ ap (λ (x : Bool). x && all_blended L) (sym P.answer ∙ e)));
        points = λ z. absurd (no z);
        weights = λ z. absurd (no z);
      }
        where
          no : false ≡ true → ⊥
          no z = let y : ◌≡◌ {A = ℕ} 0 1 = cc in omega arith

      pub putting-run : (j + length l) * 3 ≤ length p₀ → given g (j + length l) ≤ length w₀ → (r : Bool) → Put o g a i p₁ w₁ p₂ w₂ r → r ≡ true → Putting o g l j p₀ w₀ L (i + length a) p₂ w₂
      putting-run P W r D e =
          let s = length-append a L in
          let c = I.count in
          let lp = I.long-points in
          let lw = I.long-weights in
          let n = points-long o a in
          let m = given-long g a in
          let gs = given-sum g i (length a) in
          let gw = given-within g i (length a) (j + length l) (omega arith) in
          record {
            long-points = ap length (D.points e) ∙ (over-long (i * 3) (points_of o a) p₁ (omega arith) ∙ lp);
            long-weights = ap length (D.weights e) ∙ (over-long (given g i) (given_of g (weights_of a)) w₁ (omega arith) ∙ lw);
            count = omega arith;
            answer = sym (ap (λ (x : Bool). x && all_blended L) (sym D.answer ∙ e)) ∙ (sym (blended-append a L) ∙ I.answer);
            points = ap (over ((i + length a) * 3) (points_of o L)) (D.points e)
                ∙ (over-over (i * 3) ((i + length a) * 3) (points_of o a) (points_of o L) p₁ (omega arith) (omega arith)
                ∙ (ap (λ (x : List Float). over (i * 3) x p₁) (sym (points-append o a L)) ∙ I.points));
            weights = ap (over (given g (i + length a)) (given_of g (weights_of L))) (D.weights e)
                ∙ (over-over (given g i) (given g (i + length a)) (given_of g (weights_of a)) (given_of g (weights_of L)) w₁ (omega arith) (omega arith)
                ∙ (ap (λ (x : List Float). over (given g i) x w₁) (sym (given-append g a L)) ∙ I.weights));
          }

  pub putting-end : (L : List Control) (i : ℕ) (p₁ w₁ : List Float) → Putting o g l j p₀ w₀ L i p₁ w₁ → L ≡ [] → Put o g l j p₀ w₀ p₁ w₁ true
  unfolding all_blended points_of weights_of
  putting-end L i p₁ w₁ I e =
      let D = subst (λ (x : List Control). Putting o g l j p₀ w₀ x i p₁ w₁) e I in
      record {
        answer = D.answer;
        points = λ z. sym (over_none (i * 3) p₁) ∙ D.points;
        weights = λ z. sym (over_none (given g i) w₁) ∙ (ap (λ (x : List Float). over (given g i) x w₁) (none g) ∙ D.weights);
      }
    where
      none : (b : Bool) → [] ≡ given_of b (weights_of [])
      none true = refl
      none false = refl

-- ---- one control
pub put_one : (o : Vector) (g : Bool) (q : Control) (i : ℕ) (p₀ w₀ p₁ w₁ : List Float) (v : Vector) (r : Bool)
    → r ≡ is_blended q → v ≡ lower_of o q → p₁ ≡ over (i * 3) (three_of v) p₀ → w₁ ≡ over (given g i) (given_of g (q.w ∷ [])) w₀ → Put o g (q ∷ []) i p₀ w₀ p₁ w₁ r
unfolding all_blended points_of weights_of
put_one o g q i p₀ w₀ p₁ w₁ v r R Q P W = record {
  answer = R ∙ and_one (is_blended q);
  points = λ z. P ∙ ap (λ (x : Vector). over (i * 3) (three_of x) p₀) Q;
  weights = λ z. W;
}
  where
    and_one : (b : Bool) → b ≡ (b && true)
    and_one true = refl
    and_one false = refl

-- ---- controls of a function, one by one
module _ (h : ℕ → Control) (f m : ℕ) where
  pub controls-step : (i : ℕ) → i < m → controls_of h (f + i) (m - i) ≡ (h (f + i) ∷ []) ++ controls_of h (f + (i + 1)) (m - (i + 1))
  unfolding controls_of
  controls-step i l =
      let e : m - i ≡ suc (m - (i + 1)) = omega arith in
      let d : f + i + 1 ≡ f + (i + 1) = omega arith in
      ap (controls_of h (f + i)) e ∙ ap (λ (k : ℕ). h (f + i) ∷ controls_of h k (m - (i + 1))) d

  pub controls-none : (i : ℕ) → m ≤ i → controls_of h (f + i) (m - i) ≡ []
  unfolding controls_of
  controls-none i l = let e : m - i ≡ 0 = omega arith in ap (controls_of h (f + i)) e

pub controls-long : (h : ℕ → Control) (f m : ℕ) → length (controls_of h f m) ≡ m
unfolding controls_of
controls-long h f zero = refl
controls-long h f (suc m) = ap suc (controls-long h (f + 1) m)

pub controls-cong : (a b : ℕ → Control) (f m : ℕ) → ((i : ℕ) → i < f + m → a i ≡ b i) → controls_of a f m ≡ controls_of b f m
unfolding controls_of
controls-cong a b f zero e = refl
controls-cong a b f (suc m) e = ap₂ (λ (x : Control) (y : List Control). x ∷ y) (e f (omega arith)) (controls-cong a b (f + 1) m (λ i l. e i (omega arith)))

-- ---- the loop over m controls: i of them are written
module _ (o : Vector) (g : Bool) (h : ℕ → Control) (f m j : ℕ) (p₀ w₀ : List Float) where
  pub record InPut (p₁ w₁ : List Float) (i : ℕ) : Type 0 where
    pub upto : i ≤ m
    pub going : Putting o g (controls_of h f m) j p₀ w₀ (controls_of h (f + i) (m - i)) (j + i) p₁ w₁

  module _ (p₁ w₁ : List Float) (i : ℕ) (I : InPut p₁ w₁ i) where
    module _ (b : i < m) (q : Control) (Q : q ≡ h (f + i)) (p₂ w₂ : List Float) where
      here : Putting o g (controls_of h f m) j p₀ w₀ ((q ∷ []) ++ controls_of h (f + (i + 1)) (m - (i + 1))) (j + i) p₁ w₁
      here =
          subst (λ (x : Control). Putting o g (controls_of h f m) j p₀ w₀ ((x ∷ []) ++ controls_of h (f + (i + 1)) (m - (i + 1))) (j + i) p₁ w₁) (sym Q)
          (subst (λ (x : List Control). Putting o g (controls_of h f m) j p₀ w₀ x (j + i) p₁ w₁) (controls-step h f m i b) I.going)

      pub put-stop : is_blended q ≡ false → Put o g (controls_of h f m) j p₀ w₀ p₂ w₂ false
      unfolding all_blended
      put-stop e =
          putting-stop o g (controls_of h f m) j p₀ w₀ (q ∷ []) (controls_of h (f + (i + 1)) (m - (i + 1))) (j + i) p₁ w₁ here p₂ w₂ false
          (record { answer = sym (ap (λ (x : Bool). x && true) e); points = λ z. absurd (no z); weights = λ z. absurd (no z) }) refl
        where
          no : false ≡ true → ⊥
          no z = let y : ◌≡◌ {A = ℕ} 0 1 = cc in omega arith

      pub put-more : (j + m) * 3 ≤ length p₀ → given g (j + m) ≤ length w₀ → is_blended q ≡ true → (v : Vector) → v ≡ lower_of o q
          → p₂ ≡ over ((j + i) * 3) (three_of v) p₁ → w₂ ≡ over (given g (j + i)) (given_of g (q.w ∷ [])) w₁ → InPut p₂ w₂ (i + 1)
      put-more P W e v Y E F =
          let s : m ≡ length (controls_of h f m) = sym (controls-long h f m) in
          let d : j + i + 1 ≡ j + (i + 1) = omega arith in
          record {
            upto = omega arith;
            going = subst (λ (k : ℕ). Putting o g (controls_of h f m) j p₀ w₀ (controls_of h (f + (i + 1)) (m - (i + 1))) k p₂ w₂) d
                (putting-run o g (controls_of h f m) j p₀ w₀ (q ∷ []) (controls_of h (f + (i + 1)) (m - (i + 1))) (j + i) p₁ w₁ here p₂ w₂
                (subst (λ (k : ℕ). (j + k) * 3 ≤ length p₀) s P) (subst (λ (k : ℕ). given g (j + k) ≤ length w₀) s W) true
                (put_one o g q (j + i) p₁ w₁ p₂ w₂ v true (sym e) Y E F) refl);
          }

    pub put-end : m ≤ i → Put o g (controls_of h f m) j p₀ w₀ p₁ w₁ true
    put-end b = putting-end o g (controls_of h f m) j p₀ w₀ (controls_of h (f + i) (m - i)) (j + i) p₁ w₁ I.going (controls-none h f m i b)
