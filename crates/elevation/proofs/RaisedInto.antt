-- The curve laid into scratch, extracted there and raised, put together from its passes.
-- Assumes nothing.
use Rattle.std.specs.Prelude.{Result, Ok, Err}
use Prim.Native.Nat.{ℕ, ◌+◌, ◌*◌, ◌/◌, ◌≤◌, ◌<◌}
use mathlib.Core.Bool.{Bool}
use mathlib.Core.Path.{◌≡◌, refl, sym, ◌∙◌, subst}
use mathlib.Core.List.{List}
use native.Mathlib.Omega.{arith}
use lib.ListN.{length}
use lib.Ieee.{Float}
use Rattle.knots.specs.Refusal.{checked}
use Rattle.knots.specs.Clear.{zeros}
use Rattle.knots.specs.Knots.{ValidKnots}
use Rattle.knots.specs.declared.refusal.Refusal.{Refusal}
use Rattle.edits.specs.Rows.{given}
use Rattle.edits.specs.Whole.{given_of}
use Rattle.insertion.specs.Fold.{insert_all}
use Rattle.edits.specs.Outcome.{Outcome}
use Rattle.edits.specs.Work.{knots_from, points_from, weights_from, lay_outcome, refusal_of, work_in}
use Rattle.edits.specs.Passes.{CurveIn, OutMeets}
use Rattle.edits.proofs.RowReads.{given-fits}
use Rattle.edits.proofs.WorkCalls.{laid-curve}
use Rattle.edits.proofs.IntoRun.{points-back, weights-back, knots-back}
use Rattle.elevation.specs.Breaks.{breaks_of, missing_all}
use Rattle.elevation.specs.Elevate.{extracted_count, raised_count, raise_all}
use Rattle.elevation.specs.Whole.{elevate_start}
use Rattle.elevation.specs.Passes.{BreaksCounted, Extracted, Raised}
use Rattle.elevation.proofs.Missing.{extracted-count}
use Rattle.elevation.proofs.Limits.{breaks-small, extracted-small, extracted-is}
use Rattle.elevation.proofs.Opened.{Opened, opened}
use Rattle.elevation.proofs.RaisedCurve.{elevated-is, raise-stop, raise-end}

module _ (p : ℕ) (ks ps : List Float) (g : Bool) (ws : List Float) (e A B C d : ℕ) (S : (elevate_start p ks ps g ws e A B C d).number ≡ 0) where
  abbrev n : ℕ
  n = length ps / 3

  abbrev bs : List Float
  bs = breaks_of p n ks

  open-facts : Opened p ks ps g ws e A B C d
  open-facts = opened p ks ps g ws e A B C d S

  pub in_reach : (p < n) × (n ≤ length ks)
  in_reach = let c = open-facts.curve.knots.count in let l = open-facts.curve.knots.long in (c, omega arith)

  few : n ≤ 1048576
  few = let s = open-facts.curve.short.points in omega arith

  pub sizes : (b f : ℕ) → BreaksCounted p ks bs b f → (p < 1048576) × (b < 1048576) × ((p + 1) * (b + 1) ≤ 1099511627776)
  sizes b f D =
      let r = in_reach in
      let x = r.0 in
      let m = extracted-small p n ks x few b D.breaks in
      let w = breaks-small p n ks x few in
      let y = D.breaks in
      let z = few in
      (omega arith, omega arith, m)

  module _ (b f : ℕ) (D : BreaksCounted p ks bs b f) (m : ℕ) (M : m ≡ (p + 1) * (b + 1)) where
    count-is : m ≡ extracted_count p bs
    count-is = M ∙ extracted-is p n ks in_reach.0 few b f D

    made-is : n + length (missing_all p ks bs) ≡ m
    unfolding extracted_count
    made-is = extracted-count p n ks open-facts.curve.knots open-facts.clamped ∙ sym count-is

    scratch : 10 * m + 2 * (p + 1) ≤ d
    scratch = subst (λ (k : ℕ). 10 * k + 2 * (p + 1) ≤ d) (sym count-is) open-facts.scratch

    points-long : length ps ≡ n * 3
    points-long = let t = open-facts.curve.triples in omega arith

    wide : n * 4 ≤ m * 4
    wide = let q = made-is in omega arith

    room : m * 4 + length ks ≤ d
    room = let q = made-is in let s = scratch in let l = open-facts.curve.knots.long in omega arith

    laid_out : (x₀ : List Float) → length x₀ ≡ d → (r : Result Unit Refusal) (x₁ : List Float) → r ≡ checked (refusal_of (lay_outcome ks ps g ws (m * 4) d))
        → x₁ ≡ work_in (m * 4) g x₀ (lay_outcome ks ps g ws (m * 4) d) → (r ≡ Ok tt) × CurveIn (m * 4) ks ps g ws x₀ x₁
    laid_out x₀ L = laid-curve ks ps g ws (m * 4) d x₀ L (given-fits g n (length ws) open-facts.curve.controls.weights) wide room

    pub lay-none : (x₀ : List Float) → length x₀ ≡ d → (r : Result Unit Refusal) → r ≡ checked (refusal_of (lay_outcome ks ps g ws (m * 4) d)) → r ≡ Ok tt
    lay-none x₀ L r R = (laid_out x₀ L r _ R refl).0

    module _ (x₀ : List Float) (L : length x₀ ≡ d) (x₁ : List Float) (X : x₁ ≡ work_in (m * 4) g x₀ (lay_outcome ks ps g ws (m * 4) d)) where
      stands : CurveIn (m * 4) ks ps g ws x₀ x₁
      stands = (laid_out x₀ L _ x₁ refl X).1

      knots-are : knots_from (m * 4) p n x₁ ≡ ks
      knots-are = knots-back (m * 4) ks ps g ws x₀ x₁ stands p n open-facts.curve.knots.long

      points-are : points_from n x₁ ≡ ps
      points-are = points-back (m * 4) ks ps g ws x₀ x₁ stands points-long

      weights-are : weights_from g n x₁ ≡ given_of g ws
      weights-are = weights-back (m * 4) ks ps g ws x₀ x₁ stands g refl open-facts.curve.controls.weights

      pub extract-ready : (l : ℕ) → l ≡ d
          → ((p < n) × (n ≤ length ks)) × (ValidKnots p n (knots_from (m * 4) p n x₁) × (((n + length (missing_all p ks bs)) * 4 ≤ m * 4) × (m * 4 + (n + length (missing_all p ks bs) + p + 1) ≤ l)))
      extract-ready l E =
          let q = made-is in
          let s = scratch in
          (in_reach, (subst (ValidKnots p n) (sym knots-are) open-facts.curve.knots, (omega arith, omega arith)))

      module _ (x₂ : List Float) (r : Result Unit Refusal)
          (E : Extracted p g (n + length (missing_all p ks bs)) (m * 4) (insert_all p g n (knots_from (m * 4) p n x₁) (points_from n x₁) (weights_from g n x₁) (missing_all p ks bs)) x₂ r) where
        extraction : Extracted p g m (m * 4) (insert_all p g n ks ps (given_of g ws) (missing_all p ks bs)) x₂ r
        extraction =
            subst (λ (k : ℕ). Extracted p g k (m * 4) (insert_all p g n ks ps (given_of g ws) (missing_all p ks bs)) x₂ r) made-is
            (subst (λ (o : Outcome). Extracted p g (n + length (missing_all p ks bs)) (m * 4) o x₂ r) (moved knots-are points-are weights-are) E)
          where
            moved : {i i' j j' l l' : List Float} → i ≡ i' → j ≡ j' → l ≡ l' → insert_all p g n i j l (missing_all p ks bs) ≡ insert_all p g n i' j' l' (missing_all p ks bs)
            moved I J K = rw (I, J, K)

        pub into-stop : (x : Refusal) → r ≡ Err x → (k₁ p₁ w₁ : List Float) → OutMeets A B C (raise_all p e n ks ps g (given_of g ws) bs) k₁ p₁ w₁ (Err x)
        into-stop x h k₁ p₁ w₁ = raise-stop p e n ks ps g (given_of g ws) bs A B C x (extraction.refused x h) k₁ p₁ w₁

        pub into-end : r ≡ Ok tt → (k₀ p₀ w₀ k₁ p₁ w₁ : List Float) (s : Result Unit Refusal) → Raised p e n ks bs g (points_from m x₂) (weights_from g m x₂) k₀ p₀ w₀ k₁ p₁ w₁ s
            → k₀ ≡ zeros A → p₀ ≡ zeros B → w₀ ≡ zeros C → OutMeets A B C (raise_all p e n ks ps g (given_of g ws) bs) k₁ p₁ w₁ s
        into-end z k₀ p₀ w₀ k₁ p₁ w₁ s R X' Y Z =
            raise-end p e n ks ps g (given_of g ws) bs A B C (knots_from (m * 4) p m x₂) (points_from m x₂) (weights_from g m x₂) (extraction.given z) k₀ p₀ w₀ k₁ p₁ w₁ s R X' Y Z

      pub raise-ready : (e ≡ p → ⊥) → (l : ℕ) → l ≡ d
          → ((p < n) × (n < length ks) × (n ≤ 1048576) × (p < e) × (e ≤ 64))
          × (((m ≡ extracted_count p bs) × (m * 4 ≤ l)) × ((raised_count p e ks bs + e + 1 ≤ A) × ((raised_count p e ks bs * 3 ≤ B) × (given g (raised_count p e ks bs) ≤ C))))
      raise-ready h l E =
          let L = open-facts.low in
          let r = in_reach in
          let c = open-facts.curve.knots.long in
          let s = scratch in
          let o : p < e = above L h in
          let i = elevated-is p e n ks o in
          let O = open-facts.out in (
            (r.0, omega arith, few, o, open-facts.high h),
            (
              (count-is, omega arith),
              (
                subst (λ (k : ℕ). k + e + 1 ≤ A) i O.knots,
                (
                  subst (λ (k : ℕ). k * 3 ≤ B) i O.points,
                  subst (λ (k : ℕ). given g k ≤ C) i O.weights,
                ),
              ),
            ),
          )
        where
          above : p ≤ e → (e ≡ p → ⊥) → p < e
          above L h = omega (arith, h)
